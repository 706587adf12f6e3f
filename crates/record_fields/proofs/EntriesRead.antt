-- Entries with a fault are those of no clock.
use Rattle.std.proofs.Common.{◌≡◌, ℕ, zero, suc, ◌+◌, Bool, true, false, ◌&&◌, [], ◌∷◌, length, take, Some, None, refl}
use Rattle.std.proofs.Common.{sym, ap, ◌∙◌, arith, true≢false}
use Rattle.std.specs.Prelude.{nat_le}
use Rattle.std.specs.List.{list_all}
use Rattle.std.specs.Ordering.{is_lt}
use Rattle.std.specs.FinMap.Entries.{is_sorted, below_all}
use Rattle.std.proofs.lemmas.Bool.{and_parts, and_from, leb-true}
use Rattle.u1_base.specs.Ids.{id_cmp}
use Rattle.vector_rev.specs.Counts.{Uid, Entries}
use Rattle.vector_rev.specs.Clock.{Clock, clock_of, is_clock, is_entry}
use Rattle.vector_rev.specs.ClockText.{IsEntriesFault}
use Rattle.vector_rev.specs.declared.read.ClockFault.{ClockFault}
use Rattle.vector_rev.specs.declared.read.ClockFault.TheVariants as fault
use Rattle.vector_rev.proofs.Reading.{fails-position}
use Rattle.vector_rev.proofs.RoundTrip.{clock_of-none, clock_of-entries}

below_take : (u : Uid) (k : ℕ) (es : Entries) → below_all id_cmp u es ≡ true → below_all id_cmp u (take k es) ≡ true
below_take u zero es h = refl
below_take u (suc k) [] h = refl
below_take u (suc k) (e ∷ es) h =
    let parts = and_parts (is_lt (id_cmp u e.0)) (below_all id_cmp u es) h in
    and_from (is_lt (id_cmp u e.0)) (below_all id_cmp u (take k es)) parts.0 (below_take u k es parts.1)

sorted_take : (k : ℕ) (es : Entries) → is_sorted id_cmp es ≡ true → is_sorted id_cmp (take k es) ≡ true
sorted_take zero es h = refl
sorted_take (suc k) [] h = refl
sorted_take (suc k) (e ∷ es) h =
    let parts = and_parts (below_all id_cmp e.0 es) (is_sorted id_cmp es) h in
    and_from (below_all id_cmp e.0 (take k es)) (is_sorted id_cmp (take k es)) (below_take e.0 k es parts.0)
    (sorted_take k es parts.1)

clash : (es : Entries) (f : ClockFault) → IsEntriesFault es f → is_clock es ≡ true → ⊥
clash es fault.Empty h is = true≢false (sym is ∙ ap is_clock h)
clash es fault.TooMany h is =
    let outer = and_parts (is_sorted id_cmp es)
    (list_all is_entry es && nat_le 1 (length es) && nat_le (length es) 64) is in
    let limits = and_parts (list_all is_entry es && nat_le 1 (length es)) (nat_le (length es) 64) outer.1 in
    absurd (omega (arith, leb-true (length es) 64 limits.1, h))
clash es (fault.BadEntry i) h is =
    let outer = and_parts (is_sorted id_cmp es)
    (list_all is_entry es && nat_le 1 (length es) && nat_le (length es) 64) is in
    let limits = and_parts (list_all is_entry es && nat_le 1 (length es)) (nat_le (length es) 64) outer.1 in
    let all = and_parts (list_all is_entry es) (nat_le 1 (length es)) limits.0 in
    true≢false (sym all.0 ∙ fails-position is_entry es i h.2)
clash es (fault.NotSorted i) h is =
    let outer = and_parts (is_sorted id_cmp es)
    (list_all is_entry es && nat_le 1 (length es) && nat_le (length es) 64) is in
    true≢false (sym (sorted_take (i + 1) es outer.0) ∙ h.3.unsorted)
clash es fault.Memory h is = h

-- a list with a fault is that of no clock
pub no_entries : (es : Entries) (f : ClockFault) → IsEntriesFault es f → clock_of es ≡ None
no_entries es f h = by (is_clock es) refl
  where
    by : (b : Bool) → is_clock es ≡ b → clock_of es ≡ None
    by true is = absurd (clash es f h is)
    by false is = clock_of-none es is

-- and a clock that has these entries is theirs
pub these_entries : (x : Clock) (es : Entries) → x.entries ≡ es → clock_of es ≡ Some x
these_entries x es same = clock_of-entries x es (sym same)

pub ruleset clocks = (no_entries, these_entries)
