-- The clocks that are made of others: by counters, and when there is none.
use Rattle.std.specs.Prelude.{◌≡◌, ◌≢◌, ℕ, ◌+◌, ◌<◌, max, ◌⊎◌, length, filter, is_none, Result, Ok}
use Rattle.std.specs.Prelude.{Err}
use Rattle.std.specs.FinMap.Entries.{find}
use Rattle.u1_base.specs.declared.limits.TheConstants.{GREATEST_COUNT, MOST_CLOCK_ENTRIES}
use Rattle.vector_rev.specs.Counts.{Uid}
use Rattle.u1_base.specs.Ids.{id_cmp}
use Rattle.vector_rev.specs.Clock.{Clock, count_of}
use Rattle.vector_rev.specs.declared.join.JoinFault.{JoinFault}
use Rattle.vector_rev.specs.declared.join.JoinFault.TheVariants as join_fault
use Rattle.vector_rev.specs.declared.join.NextFault.{NextFault}
use Rattle.vector_rev.specs.declared.join.NextFault.TheVariants as next_fault

-- z has of each uid the greater counter
abbrev pub IsJoin : Clock → Clock → Clock → Type 0
IsJoin x y z = (u : Uid) → count_of z u ≡ max (count_of x u) (count_of y u)

-- how many uids occur in one clock or in both: those of x, and those of y that are not in x
abbrev pub occurring : Clock → Clock → ℕ
occurring x y = length x.entries + length (filter (λ e. is_none (find id_cmp e.0 x.entries)) y.entries)

-- a join is answered where no more uids occur than a clock may have entries
abbrev pub Joins : Clock → Clock → Result Clock JoinFault → Type 0
Joins x y (Ok z) = IsJoin x y z
Joins x y (Err join_fault.TooMany) = MOST_CLOCK_ENTRIES < occurring x y
Joins x y (Err join_fault.Memory) = Unit {0}

-- z has the own counter raised by one, and each other counter of x
pub record IsNext (x : Clock) (own : Uid) (z : Clock) : Type 0 where
  pub raised : count_of z own ≡ count_of x own + 1
  pub others : (u : Uid) → u ≢ own → count_of z u ≡ count_of x u

-- the own counter cannot be raised: it is the greatest, or its entry would be the 65th
abbrev pub IsFull : Clock → Uid → Type 0
IsFull x own = (count_of x own ≡ GREATEST_COUNT) ⊎ ((count_of x own ≡ 0) × (length x.entries ≡ MOST_CLOCK_ENTRIES))

-- a clock is raised where it is not full
abbrev pub Raises : Clock → Uid → Result Clock NextFault → Type 0
Raises x own (Ok z) = IsNext x own z
Raises x own (Err next_fault.ClockFull) = IsFull x own
Raises x own (Err next_fault.Memory) = Unit {0}

-- z has the own counter 1 alone
pub record IsFirst (own : Uid) (z : Clock) : Type 0 where
  pub one : count_of z own ≡ 1
  pub others : (u : Uid) → u ≢ own → count_of z u ≡ 0
