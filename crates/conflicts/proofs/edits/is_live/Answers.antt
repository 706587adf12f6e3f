-- The current member's content is the document's.
use Rattle.std.specs.Prelude.{is_some}
use Rattle.std.proofs.Common.{◌∙◌, ap, sym}
use Rattle.conflicts.specs.declared.member.Member.{Member}
use Rattle.conflicts.proofs.Sets.{content_kept}
use Rattle.conflicts.proofs.edits.is_live.Goals as goal

pub returns : goal.returns
returns c =
    c.is_some.ensures ∙ ap is_some (ap (λ (m : Member). m.content) c.current.ensures
    ∙ sym (content_kept c.args.set.now))
