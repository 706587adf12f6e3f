-- The tests before the order leave entries that keep the limits.
use Rattle.std.proofs.Common.{◌≤◌, T, length, subst, arith}
use Rattle.vector_rev.specs.Counts.{Entries}
use Rattle.vector_rev.specs.Clock.{is_limited}
use Rattle.vector_rev.proofs.Reading.{is_limited-entries, takes_ordered, some_from_test}
use Rattle.vector_rev.proofs.clock.Clock.of_entries.Goals as goal

pub in_order-requires : goal.in_order-requires
in_order-requires c =
    let some = some_from_test _ c.is_empty.result c.is_empty.ensures c.if-is_empty.false in
    is_limited-entries c.into_vec-entries.result.items c.as_slice.result.now c.as_slice.ensures.value c.in-None.ensures
    (omega (arith, some, c.into_vec-entries.result.ok)) (omega (arith, c.len.ensures, c.into_vec-entries.result.ok))

pub returns-in-None : goal.returns-in-None
returns-in-None c =
    let some = some_from_test _ c.is_empty.result c.is_empty.ensures c.if-is_empty.false in
    let long : 1 ≤ length c.into_vec-entries.result.items = omega (arith, some, c.into_vec-entries.result.ok) in
    let limited = is_limited-entries c.into_vec-entries.result.items c.as_slice.result.now c.as_slice.ensures.value
    c.in-None.ensures long (omega (arith, c.len.ensures, c.into_vec-entries.result.ok)) in
    takes_ordered c.args.entries c.into_vec-entries.result.items c.in_order.result c.into_vec-entries.ensures
    (subst (λ (es : Entries). 1 ≤ length es) c.into_vec-entries.ensures long)
    (subst (λ es. T (is_limited es)) c.into_vec-entries.ensures limited) c.in_order.ensures
