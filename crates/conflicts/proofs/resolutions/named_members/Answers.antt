-- After all members each was seen.
use Rattle.std.specs.Prelude.{List}
use Rattle.std.proofs.Common.{◌∙◌, ap, arith, length}
use Rattle.conflicts.specs.Making.{named_in, revs}
use Rattle.conflicts.specs.declared.member.Member.{Member}
use Rattle.conflicts.proofs.Loops.{seen_all}
use Rattle.conflicts.proofs.resolutions.named_members.Goals as goal

pub returns : goal.returns
returns c =
    c.loop-place.invariant
    ∙ ap (λ (ms : List Member). revs (named_in c.args.names.now.all.now ms))
    (seen_all c.args.set.now c.loop-place.place (omega (arith, ap length c.members-place-end.ensures)))
