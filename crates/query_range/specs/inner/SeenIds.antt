-- Beside specs/SeenIds: words of private contracts and of proofs.
use Rattle.std.specs.Prelude.{◌≡◌, ℕ, Bool, false, ◌||◌, List, Option, Some, None}
use Rattle.std.specs.Borrow.{Bor}
use Rattle.std.specs.BTreeSet.{BTreeSet, contains}
use Rattle.u1_base.specs.Ids.{same_id}
use Rattle.query_range.specs.SeenIds.{Places, text_cmp, owner}

-- whether the id was found: it owns its place, or stands in the tree where another one owns it
abbrev pub is_held : Option (Bor (List ℕ)) → Bool → List ℕ → Bool
is_held None in_tree id = false
is_held (Some other) in_tree id = same_id other.now id || in_tree

abbrev pub holds : Places → BTreeSet (Bor (List ℕ)) → Bor (List ℕ) → Bool
holds places others id = is_held (owner places id.now) (contains text_cmp others id) id.now

-- of two moments: one id more is held, and all that were
abbrev pub SeesOneMore : Places → BTreeSet (Bor (List ℕ)) → Bor (List ℕ) → Places → BTreeSet (Bor (List ℕ)) → Type 0
SeesOneMore places others id new_places new =
    (other : Bor (List ℕ)) → holds new_places new other ≡ (same_id id.now other.now || holds places others other)
