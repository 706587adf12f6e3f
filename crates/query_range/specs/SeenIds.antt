-- The ids that a search found so far.
use Rattle.std.specs.Prelude.{◌≡◌, ℕ, ◌%◌, true, List, length, slice_index_or, Option, None}
use Rattle.std.specs.Prelude.{is_some}
use Rattle.std.specs.Borrow.{Bor}
use Rattle.std.specs.BTreeSet.{BTreeSet, contains}
use Rattle.std.specs.Hash.{str}
use Rattle.std.specs.Hash.FoldHasher.{finish, initial, write}
use Rattle.std.specs.List.{fold}
use Rattle.std.specs.declared.cmp.Ordering.{Ordering}
use Rattle.u1_base.specs.Ids.{id_cmp}

-- the number of a text: what std's hasher makes of it
abbrev pub mark : List ℕ → ℕ
mark text = finish (fold write initial (str text))

abbrev pub Places : Type 0
Places = List (Option (Bor (List ℕ)))

-- the order of the texts in the tree
abbrev pub text_cmp : Bor (List ℕ) → Bor (List ℕ) → Ordering
text_cmp text other = id_cmp text.now other.now

-- what stands at the place of an id
abbrev pub owner : Places → List ℕ → Option (Bor (List ℕ))
owner places id = slice_index_or places (mark id % length places) None

-- what stands in the tree has a place that is taken
abbrev pub AreBehind : Places → BTreeSet (Bor (List ℕ)) → Type 0
AreBehind places others = (id : Bor (List ℕ)) → contains text_cmp others id ≡ true
    → is_some (owner places id.now) ≡ true
