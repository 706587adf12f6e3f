-- The merged revision is that of the table.
use Rattle.std.specs.Prelude.{◌||◌}
use Rattle.std.proofs.Common.{◌∙◌, ap, sym}
use Rattle.vector_rev.specs.Clock.{dominates}
use Rattle.conflicts.specs.Kept.{current_first}
use Rattle.conflicts.specs.Making.{made_clock}
use Rattle.conflicts.specs.declared.member.Member.{Member}
use Rattle.conflicts.proofs.Unrefused.{merge_made, merge_not}
use Rattle.conflicts.proofs.Walks.{may_merge_is}
use Rattle.conflicts.proofs.merges.merged.Goals as goal

pub returns-then-not-may_be_made : goal.returns-then-not-may_be_made
returns-then-not-may_be_made c =
    merge_not c.args.set.now c.args.incoming.now c.args.save c.args.own.now
    (sym (may_merge_is c.args.incoming.now c.args.own.now
    (current_first c.args.set.now) c.args.merging.parents c.args.merging.most c.requires.parents c.requires.most)
    ∙ sym c.may_be_made.ensures ∙ c.if-not-may_be_made.true)

pub returns : goal.returns
returns c =
    merge_made c.args.set.now c.args.incoming.now c.args.save c.args.own.now c.args.merging.parents c.in-Some.rev _
    c.args.merging.leads c.becomes_current-current.result _
    c.requires.parents c.in-Some.is
    (c.in_ok-rev.ensures ∙ ap (made_clock c.args.own.now) c.as_slice.ensures)
    (sym (may_merge_is c.args.incoming.now c.args.own.now
    (current_first c.args.set.now) c.args.merging.parents c.args.merging.most c.requires.parents c.requires.most)
    ∙ sym c.may_be_made.ensures ∙ c.if-not-may_be_made.false)
    c.requires.leads
    (c.becomes_current-current.ensures
    ∙ ap (λ (m : Member). (c.args.save || c.args.merging.leads) || dominates c.in-Some.rev m.rev) c.current.ensures)
    c.in_ok-copied.ensures
