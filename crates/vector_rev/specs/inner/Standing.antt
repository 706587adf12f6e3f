-- Where a uid stands, or would stand, among entries in order, and when there is room to
-- count further.
use Rattle.std.specs.Prelude.{◌≡◌, ℕ, ◌+◌, ◌-◌, ◌<◌, ◌≤◌, ◌⊎◌, length}
use Rattle.std.specs.List.{HoldsAt}
use Rattle.std.proofs.Common.{Less}
use Rattle.vector_rev.specs.Counts.{Uid, Entries}
use Rattle.u1_base.specs.Ids.{id_cmp}
use Rattle.u1_base.specs.declared.limits.TheConstants.{GREATEST_COUNT, MOST_CLOCK_ENTRIES}
use Rattle.vector_rev.specs.Clock.{Clock, count_of}

-- the uid is below the entry at a place, if there is one
pub record IsAbove (u : Uid) (es : Entries) (place : ℕ) : Type 0 where
  pub within : place ≤ length es
  pub after : place < length es → HoldsAt (λ e. id_cmp u e.0 ≡ Less) es place

-- the uid has an entry at a place
pub record StandsAt (u : Uid) (es : Entries) (place : ℕ) : Type 0 where
  pub within : place < length es
  pub same : HoldsAt (λ e. u ≡ e.0) es place

-- the uid is below the entry at a place, and above the one before it
pub record FitsAt (u : Uid) (es : Entries) (place : ℕ) : Type 0 where
  pub above : IsAbove u es place
  pub before : 0 < place → HoldsAt (λ e. id_cmp e.0 u ≡ Less) es (place - 1)

-- n is the own counter raised by one, and the clock keeps the limits with it
pub record HasRoom (x : Clock) (own : Uid) (n : ℕ) : Type 0 where
  pub raised : n ≡ count_of x own + 1
  pub small : n ≤ GREATEST_COUNT
  pub room : (1 ≤ count_of x own) ⊎ (length x.entries < MOST_CLOCK_ENTRIES)
