-- What is found goes by how the clocks compare.
use Rattle.std.proofs.Common.{refl, sym}
use Rattle.vector_rev.proofs.ClockLaws.{dominates_from}
use Rattle.conflicts.proofs.Walks.{look_newer}
use Rattle.conflicts.proofs.merges.look_at.Goals as goal

pub returns-in-Older : goal.returns-in-Older
returns-in-Older c = dominates_from _ _ c.in-Older.ensures.counters

pub returns-in-Equal : goal.returns-in-Equal
returns-in-Equal c = sym c.in-Equal.ensures.counters

pub returns-in-Newer : goal.returns-in-Newer
returns-in-Newer c =
    look_newer c.args.incoming.now c.args.own.now c.args.member.now _ _
    (dominates_from _ _ c.in-Newer.ensures.counters) refl
