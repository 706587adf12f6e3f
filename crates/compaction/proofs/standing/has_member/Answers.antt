use Rattle.std.proofs.Common.{arith, ◌≤◌, length}
use Rattle.compaction.proofs.InOrder.{is_found, none_so_far, none_at_all}
use Rattle.compaction.proofs.standing.has_member.Goals as goal

pub returns-then-is_that : goal.returns-then-is_that
returns-then-is_that c =
    is_found c.args.set.now c.args.rev.now c.loop-place.place _ c.is_that.result c.member.ensures.value
    c.is_that.ensures c.if-is_that.true

pub loop-place-preserved : goal.loop-place-preserved
loop-place-preserved c =
    none_so_far c.args.set.now c.args.rev.now c.loop-place.place _ c.is_that.result c.member.ensures.value
    c.is_that.ensures c.if-is_that.false
    c.loop-place.invariant

pub returns : goal.returns
returns c =
    let past : length c.args.set.now.members ≤ c.loop-place.place =
    omega (arith, c.length-place-end.ensures, c.loop-place-test.false) in
    none_at_all c.args.set.now c.args.rev.now c.loop-place.place past c.loop-place.invariant
