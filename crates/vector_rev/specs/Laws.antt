-- What holds of all clocks.
use Rattle.std.specs.Prelude.{◌≡◌, ℕ, ◌≤◌, List, Some}
use Rattle.u1_base.specs.declared.limits.TheConstants.{MOST_CLOCK_ENTRIES}
use Rattle.vector_rev.specs.Counts.{Uid}
use Rattle.vector_rev.specs.Clock.{Clock, count_of, Covers, Dominates}
use Rattle.vector_rev.specs.Compare.{Compares, order_of}
use Rattle.vector_rev.specs.Made.{occurring, IsFull}
use Rattle.vector_rev.specs.ClockText.{clock_text, IsTextFault, clock_in}
use Rattle.vector_rev.specs.declared.compare.Order.{Order}
use Rattle.vector_rev.specs.declared.read.ClockFault.{ClockFault}
use Rattle.vector_rev.specs.declared.read.ClockFault.TheVariants.{Memory}

-- covering is a partial order, and each comparison has one answer
pub record CoveringIsAnOrder : Type 0 where
  pub itself : (x : Clock) → Covers x x
  pub through : (x y z : Clock) → Covers x y → Covers y z → Covers x z
  pub both : (x y : Clock) → Covers x y → Covers y x → x ≡ y
  pub one_answer : (x y : Clock) (r : Order) → Compares x y r → r ≡ order_of x y

-- a clock is what it counts
abbrev pub CountersDecide : Type 0
CountersDecide = (x y : Clock) → ((u : Uid) → count_of x u ≡ count_of y u) → x ≡ y

-- the join covers both clocks and no more than it must; where it is a clock, at most 64 uids occur
pub record JoinIsLeast (x y z : Clock) : Type 0 where
  pub left : Covers z x
  pub right : Covers z y
  pub least : (w : Clock) → Covers w x → Covers w y → Covers w z
  pub few : occurring x y ≤ MOST_CLOCK_ENTRIES

-- a raised clock is newer, and was not full
pub record NextIsNewer (x : Clock) (own : Uid) (z : Clock) : Type 0 where
  pub newer : Dominates z x
  pub room : ¬ (IsFull x own)

-- a clock's text has no fault, and is no other clock's text
pub record TextsTellClocks : Type 0 where
  pub no_fault : (x : Clock) (fault : ClockFault) → IsTextFault (clock_text x) fault → fault ≡ Memory
  pub apart : (x y : Clock) → clock_text x ≡ clock_text y → x ≡ y

-- a clock's text reads as that clock, and what reads as a clock is its text
pub record ReadingTellsClocks : Type 0 where
  pub back : (x : Clock) → clock_in (clock_text x) ≡ Some x
  pub only : (text : List ℕ) (x : Clock) → clock_in text ≡ Some x → text ≡ clock_text x
