-- The clock of the parents, raised.
use Rattle.std.specs.Prelude.{option_copied}
use Rattle.std.specs.List.{list_any}
use Rattle.std.proofs.Common.{◌∙◌, ap, refl}
use Rattle.vector_rev.specs.Clock.{dominates}
use Rattle.vector_rev.specs.Compare.{same}
use Rattle.conflicts.specs.Kept.{current}
use Rattle.conflicts.specs.Making.{made_clock}
use Rattle.conflicts.specs.declared.member.Member.{Member}
use Rattle.conflicts.proofs.Unrefused.{resolution_from}
use Rattle.conflicts.proofs.resolutions.resolution.Goals as goal

pub returns : goal.returns
returns c =
    resolution_from c.args.own.now (current c.args.set.now).rev c.args.parents.items
    (option_copied c.args.content) c.in-Some.rev _ _ c.stands_in.result c.is_newer.result c.resolution_with.result
    c.in-Some.is (c.in_ok-rev.ensures ∙ ap (made_clock c.args.own.now) c.as_slice.ensures.value)
    (c.stands_in.ensures ∙ (λ i. list_any (λ p. same p (c.current.ensures i).rev) (c.as_slice-2.ensures.value i)))
    (c.is_newer.ensures ∙ ap (λ (m : Member). dominates c.in-Some.rev m.rev) c.current.ensures) refl
    c.resolution_with.ensures
