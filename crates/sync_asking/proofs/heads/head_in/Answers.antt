use Rattle.std.proofs.Common.{◌≤◌, IfSome, length, subst, sym}
use Rattle.u1_base.specs.declared.limits.TheConstants.{MOST_HEAD_BYTES}
use Rattle.sync_asking.proofs.Lengths.{found_within}
use Rattle.sync_asking.proofs.heads.head_in.Goals as goal

pub returns-in-Ok-clause-within : goal.returns-in-Ok-clause-within
returns-in-Ok-clause-within c =
    subst (λ o. IfSome o (λ found. (found.length ≤ length c.args.heard.now) × (found.length ≤ MOST_HEAD_BYTES)))
    (sym c.found_of.ensures) (found_within c.args.heard.now c.in-Ok.said c.in-Ok.ensures.hears)
