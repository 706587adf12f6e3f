-- The entries of a transaction log, and what the log says by its places, which count from 1.
use Rattle.std.specs.Prelude.{ℕ, zero, suc, Bool, not, ◌&&◌, nat_lt, List, [], ◌∷◌, drop, filter, Option, None}
use Rattle.std.specs.List.{list_any, slice_get}
use Rattle.std.specs.Option.{option_map}
use Rattle.u1_base.specs.Ids.{same_id}
use Rattle.translog.specs.declared.entry.Entry.{Entry}
use Rattle.translog.specs.declared.entry.Change.{Change}

-- the transaction id of a generation: none for generation 0 and past the end
abbrev pub trans_at : List Entry → ℕ → Option (List ℕ)
trans_at es zero = None
trans_at es (suc k) = option_map (λ e. e.trans) (slice_get es k)

-- the change that the entry at a place tells
abbrev pub change_at : Entry → ℕ → Change
change_at e n = record { doc = e.doc; generation = n; trans = e.trans }

-- each entry as a change, the first at place n
abbrev pub numbered : ℕ → List Entry → List Change
numbered n [] = []
numbered n (e ∷ es) = change_at e n ∷ numbered (suc n) es

-- no later entry of the log has the change's document
abbrev pub is_last : List Entry → Change → Bool
is_last es c = not (list_any (λ e. same_id c.doc e.doc) (drop c.generation es))

-- the changes since a generation: the entries after it whose document no later entry repeats, in their order
abbrev pub changes_since : List Entry → ℕ → List Change
changes_since es g = filter (λ c. nat_lt g c.generation && is_last es c) (numbered 1 es)
