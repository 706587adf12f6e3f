-- The parts of the text are read, and then the order of their uids is tested.
use Rattle.std.proofs.Common.{◌≡◌, ◌+◌, ◌≤◌, ℕ, List, length, eqb, sym, ◌∙◌, ap, subst, T, arith}
use Rattle.std.specs.Prelude.{count_by, Err}
use Rattle.vector_rev.specs.Clock.{is_limited}
use Rattle.vector_rev.specs.ClockText.{parts_of}
use Rattle.vector_rev.specs.declared.read.ClockFault.TheVariants as fault
use Rattle.vector_rev.proofs.Reading.{empty_is, reads_fault, reads_ordered, some_from_test, not_nil}
use Rattle.vector_rev.proofs.RoundTrip.{reads_clock}
use Rattle.vector_rev.proofs.Spelling.{entries_text-parts, is_limited-parts, length-parts_of}
use Rattle.vector_rev.proofs.clock.Clock.read.Goals as goal

-- the parts are one more than the bars that the code counted
counted : (text bytes : List ℕ) (n : ℕ) → n ≡ count_by (λ b. eqb b 124) bytes → bytes ≡ text
    → length (parts_of text) ≡ n + 1
counted text bytes n e same = length-parts_of text ∙ ap (λ k. k + 1) (ap (count_by (λ b. eqb b 124)) (sym same) ∙ sym e)

pub returns-then-is_empty : goal.returns-then-is_empty
returns-then-is_empty c =
    reads_clock c.args.text.now (Err fault.Empty)
    (empty_is c.args.text.now c.is_empty.result c.is_empty.ensures c.if-is_empty.true)

pub returns-then-bars_in-ge-MOST_CLOCK_ENTRIES : goal.returns-then-bars_in-ge-MOST_CLOCK_ENTRIES
returns-then-bars_in-ge-MOST_CLOCK_ENTRIES c =
    reads_clock c.args.text.now (Err fault.TooMany)
    (omega (
      arith,
      counted c.args.text.now c.as_bytes.result.now c.bars_in.result c.bars_in.ensures
          c.as_bytes.ensures.value,
    ))

pub in_order-requires : goal.in_order-requires
in_order-requires c =
    let few : length (parts_of c.args.text.now) ≤ 64 =
    omega (
      arith,
      counted c.args.text.now c.as_bytes.result.now c.bars_in.result c.bars_in.ensures
          c.as_bytes.ensures.value,
    ) in
    subst (λ es. T (is_limited es)) (sym c.into_vec.ensures)
    (is_limited-parts c.args.text.now c.in-Ok.entries c.in-Ok.ensures.0 c.in-Ok.ensures.1 few)

pub returns-in-Ok : goal.returns-in-Ok
returns-in-Ok c =
    let few : length (parts_of c.args.text.now) ≤ 64 =
    omega (
      arith,
      counted c.args.text.now c.as_bytes.result.now c.bars_in.result c.bars_in.ensures
          c.as_bytes.ensures.value,
    ) in
    reads_clock c.args.text.now c.in_order.result
    (reads_ordered c.args.text.now c.in-Ok.entries c.into_vec.result.items c.in_order.result
    (not_nil c.args.text.now (some_from_test _ c.is_empty.result c.is_empty.ensures c.if-is_empty.false)) few
    c.in-Ok.ensures c.into_vec.ensures
    (entries_text-parts c.args.text.now c.in-Ok.entries c.in-Ok.ensures.0 c.in-Ok.ensures.1) c.in_order.ensures)

pub returns-in-Err : goal.returns-in-Err
returns-in-Err c =
    let few : length (parts_of c.args.text.now) ≤ 64 =
    omega (
      arith,
      counted c.args.text.now c.as_bytes.result.now c.bars_in.result c.bars_in.ensures
          c.as_bytes.ensures.value,
    ) in
    reads_clock c.args.text.now (Err c.in-Err.fault)
    (reads_fault c.args.text.now c.in-Err.fault
    (not_nil c.args.text.now (some_from_test _ c.is_empty.result c.is_empty.ensures c.if-is_empty.false)) few
    c.in-Err.ensures)
