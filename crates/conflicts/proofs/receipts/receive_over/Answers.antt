-- The first rows go by how the clocks compare.
use Rattle.std.proofs.Common.{◌∙◌, ap, subst}
use Rattle.vector_rev.specs.Clock.{Dominates}
use Rattle.vector_rev.proofs.ClockLaws.{dominates_from}
use Rattle.conflicts.specs.Document.{others}
use Rattle.conflicts.specs.Kept.{current, current_first}
use Rattle.conflicts.specs.declared.member.Member.{Member}
use Rattle.conflicts.proofs.Rows.{row_equal, row_older, row_newer, ok_then}
use Rattle.conflicts.proofs.receipts.receive_over.Goals as goal

pub returns-in-Equal : goal.returns-in-Equal
returns-in-Equal c =
    let k = c.args.set.now in
    c.unchanged.ensures
    ∙ row_equal (current k).rev (current_first k)
    (others (current k).rev k.members) c.args.incoming.now c.args.save c.args.own.now
    (c.in-Equal.ensures.counters ∙ ap (λ (m : Member). m.rev) c.current.ensures)

pub returns-in-Older : goal.returns-in-Older
returns-in-Older c =
    let k = c.args.set.now in
    c.unchanged-in-Older.ensures
    ∙ row_older (current k).rev (current_first k)
    (others (current k).rev k.members) c.args.incoming.now c.args.save c.args.own.now
    (dominates_from _ _ (subst (λ (m : Member). Dominates m.rev c.args.incoming.now.rev) c.current.ensures
    c.in-Older.ensures.counters))

pub returns-in-Newer : goal.returns-in-Newer
returns-in-Newer c =
    let k = c.args.set.now in
    ok_then c.accepted_as.result _ _ c.accepted_as.ensures
    (row_newer (current k).rev (current_first k)
    (others (current k).rev k.members) c.args.incoming.now c.args.save c.args.own.now
    (dominates_from _ _ (subst (λ (m : Member). Dominates c.args.incoming.now.rev m.rev) c.current.ensures
    c.in-Newer.ensures.counters)))
