-- The members with the current one first are those of the document.
use Rattle.std.specs.Prelude.{◌≡◌, ◌⊎◌, List, Err, option_copied}
use Rattle.std.proofs.Common.{arith, subst}
use Rattle.vector_rev.specs.Clock.{Clock}
use Rattle.conflicts.specs.Kept.{current, current_first}
use Rattle.conflicts.specs.Making.{resolved_over}
use Rattle.conflicts.specs.declared.resolutions.ResolveFault.TheVariants as resolve_fault
use Rattle.conflicts.proofs.Unrefused.{resolved_kept}
use Rattle.conflicts.proofs.resolutions.resolve_there.Goals as goal

pub returns : goal.returns
returns c =
    resolved_kept c.args.set.now c.args.named.now (option_copied c.args.content) c.args.own.now c.resolve_over.result
    (omega (arith, c.length.ensures))
    (subst (λ (ns : List Clock). (c.resolve_over.result ≡ Err resolve_fault.Memory)
    ⊎ (c.resolve_over.result ≡ resolved_over (current c.args.set.now).rev (current_first c.args.set.now) ns
    (option_copied c.args.content) c.args.own.now)) c.as_slice.ensures c.resolve_over.ensures)
