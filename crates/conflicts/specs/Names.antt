-- Private words: an order of clocks, by which the names of a resolution are sorted.
use Rattle.std.specs.Prelude.{◌≡◌, ℕ, Bool, false, List}
use Rattle.std.specs.Borrow.{Bor}
use Rattle.std.specs.List.{list_any}
use Rattle.std.specs.Ordering.{is_lt, nat_cmp, ordering_then}
use Rattle.std.specs.Cmp.Lexicographic.{slice_cmp}
use Rattle.std.specs.declared.cmp.Ordering.{Ordering}
use Rattle.u1_base.specs.Ids.{id_cmp}
use Rattle.vector_rev.specs.Counts.{Uid}
use Rattle.vector_rev.specs.Clock.{Clock}
use Rattle.vector_rev.specs.Compare.{same}
use Rattle.conflicts.specs.Lists.{is_empty}

-- entries by their uids, and then by their counters
abbrev pub entry_cmp : Uid × ℕ → Uid × ℕ → Ordering
entry_cmp e f = ordering_then (id_cmp e.0 f.0) (nat_cmp e.1 f.1)

-- clocks by their entries, one after the other
abbrev pub clock_cmp : Clock → Clock → Ordering
clock_cmp x y = slice_cmp entry_cmp x.entries y.entries

-- one name stands before another one
abbrev pub is_before : Bor Clock → Bor Clock → Bool
is_before one other = is_lt (clock_cmp one.now other.now)

-- the names, where there are some, are these clocks in some order
abbrev pub NamesThese : List (Bor Clock) → List Clock → Type 0
NamesThese names cs =
    (c : Clock) → is_empty names ≡ false → list_any (λ n. same n.now c) names ≡ list_any (λ d. same d c) cs
