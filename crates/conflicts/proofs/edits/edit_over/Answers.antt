-- The clock of the one parent, raised.
use Rattle.std.specs.Prelude.{◌≡◌, ◌≤◌, List, [], ◌∷◌, ◌++◌, length, option_copied}
use Rattle.std.proofs.Common.{◌∙◌, ap, ap₂, arith, sym, subst}
use Rattle.vector_rev.specs.Clock.{Clock}
use Rattle.conflicts.specs.Kept.{current}
use Rattle.conflicts.specs.Making.{made_clock}
use Rattle.conflicts.specs.declared.member.Member.{Member}
use Rattle.conflicts.proofs.Unrefused.{edit_last}
use Rattle.conflicts.proofs.edits.edit_over.Goals as goal

pub made_of-requires : goal.made_of-requires
made_of-requires c =
    let one : c.as_slice.result.now ≡ (current c.args.set.now).rev ∷ [] =
    c.as_slice.ensures ∙ c.in_ok-push.ensures.ok
    ∙ ap₂ (λ (v : List Clock) (r : Clock). v ++ r ∷ []) c.new-parents.ensures
    (c.in_ok-copy.ensures ∙ ap (λ (m : Member). m.rev) c.current.ensures) in
    subst (λ (ps : List Clock). 1 ≤ length ps) (sym one) (omega arith)

pub returns-in-Some : goal.returns-in-Some
returns-in-Some c =
    edit_last c.args.own.now (current c.args.set.now).rev c.push.new.self
    (option_copied c.args.content) c.in-Some.rev _ c.edit_with.result
    (c.in_ok-push.ensures.ok ∙ ap₂ (λ (v : List Clock) (r : Clock). v ++ r ∷ []) c.new-parents.ensures
    (c.in_ok-copy.ensures ∙ ap (λ (m : Member). m.rev) c.current.ensures))
    c.in-Some.is (c.in_ok-rev.ensures ∙ ap (made_clock c.args.own.now) c.as_slice.ensures) c.edit_with.ensures
