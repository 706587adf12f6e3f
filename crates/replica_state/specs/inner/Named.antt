-- Beside specs/Named: words of private contracts and of proofs.
use Rattle.std.specs.Prelude.{ℕ, suc, ◌≤◌, Bool, false, not, cond, List, [], ◌∷◌, filter, map, length, Option, Some}
use Rattle.std.specs.Prelude.{None}
use Rattle.std.specs.FinMap.Entries.{by_order}
use Rattle.std.specs.Ordering.{is_lt}
use Rattle.u1_base.specs.Ids.{id_cmp, same_id}
use Rattle.index_tables.specs.Order.{Entry}
use Rattle.conflicts.specs.Kept.{Kept}
use Rattle.conflicts.specs.State.{Text}
use Rattle.replica_state.specs.Held.{Names}
use Rattle.replica_state.specs.Keyed.{keys_of_kept}
use Rattle.replica_state.specs.declared.index.Index.{Index}

abbrev pub name_of : Index → Text × List Text
name_of x = (x.name, x.exprs.texts)

abbrev pub names_of : List Index → Names
names_of xs = map name_of xs

-- an index without the room of its table
abbrev pub bare : Index → (Text × List Text) × List Entry
bare x = ((x.name, x.exprs.texts), x.table.pairs)

-- the table has room for all pairs of a document
abbrev pub HasRoom : Kept → Index → Type 0
HasRoom kept x = length (keys_of_kept x.exprs.texts kept) ≤ x.table.room

-- the name is below that of the index
abbrev pub is_before : Text → Index → Bool
is_before name x = is_lt (id_cmp x.name name)

-- how many of the first indexes have names below the name
abbrev pub place_in : Text → List Index → ℕ
place_in name [] = 0
place_in name (x ∷ xs) = cond (is_before name x) (suc (place_in name xs)) 0

-- whether an index, if there is one, has the name
abbrev pub is_named : Text → Option Index → Bool
is_named name None = false
is_named name (Some x) = same_id name x.name

-- the index in its place, instead of one of its name
abbrev pub put_index : Index → List Index → List Index
put_index x [] = x ∷ []
put_index x (y ∷ ys) = by_order (id_cmp x.name y.name) (x ∷ y ∷ ys) (x ∷ ys) (y ∷ put_index x ys)

-- the indexes of other names
abbrev pub other_indexes : Text → List Index → List Index
other_indexes name xs = filter (λ x. not (same_id name x.name)) xs

-- the first index of a name
abbrev pub first_named : Text → List Index → Option Index
first_named name [] = None
first_named name (x ∷ xs) = cond (same_id name x.name) (Some x) (first_named name xs)
