-- The text of a clock is short.
use Rattle.std.proofs.Common.{◌≡◌, ℕ, ◌*◌, ◌^◌, ◌<◌, ◌≤◌, true, [], ◌∷◌, length, arith, length-append, lit<}
use Rattle.std.specs.Prelude.{nat_le, ◌&&◌}
use Rattle.std.specs.Fmt.{decimal}
use Rattle.std.specs.List.{list_all}
use Rattle.std.proofs.lemmas.Bool.{and_parts, leb-true}
use Rattle.std.proofs.lemmas.Fmt.{length-decimal-le}
use Rattle.u1_base.specs.Ids.{is_id}
use Rattle.u1_base.specs.declared.ids.Form.TheVariants.{Replica}
use Rattle.u1_base.specs.declared.limits.TheConstants.{GREATEST_COUNT}
use Rattle.u1_base.proofs.IdFacts.{id_facts}
use Rattle.vector_rev.specs.Counts.{Uid, Entries}
use Rattle.vector_rev.specs.Clock.{Clock, is_entry}
use Rattle.vector_rev.specs.ClockText.{clock_text, entries_text, entry_text}
use Rattle.vector_rev.proofs.Truths.{T_true}
use Rattle.vector_rev.proofs.ClockLaws.{entries_of, few_entries}

-- a uid, a colon and at most 19 digits
length-entry_text : (e : Uid × ℕ) → is_entry e ≡ true → length (entry_text e) ≤ 84
length-entry_text e is =
    let outer = and_parts (is_id Replica e.0 && nat_le 1 e.1) (nat_le e.1 GREATEST_COUNT) is in
    let inner = and_parts (is_id Replica e.0) (nat_le 1 e.1) outer.0 in
    let small = leb-true e.1 GREATEST_COUNT outer.1 in
    let short = (id_facts Replica e.0 inner.0).1 in
    let digits : length (decimal e.1) ≤ 19 = length-decimal-le 19 e.1 (lit< tt) (omega (arith, small))
    (omega (arith, small)) in
    omega (arith, length-append e.0 (58 ∷ decimal e.1), short, digits)

length-entries_text : (es : Entries) → list_all is_entry es ≡ true → length (entries_text es) ≤ 85 * length es
length-entries_text [] is = omega arith
length-entries_text (e ∷ []) is =
    let parts = and_parts (is_entry e) true is in omega (arith, length-entry_text e parts.0)
length-entries_text (e ∷ f ∷ es) is =
    let parts = and_parts (is_entry e) (list_all is_entry (f ∷ es)) is in
    let first = length-entry_text e parts.0 in
    let others = length-entries_text (f ∷ es) parts.1 in
    omega (arith, length-append (entry_text e) (124 ∷ entries_text (f ∷ es)), first, others)

pub length-clock_text : (c : Clock) → length (clock_text c) < 2 ^ 16
length-clock_text c =
    let short = length-entries_text c.entries (T_true _ (entries_of c)) in omega (arith, short, few_entries c)
