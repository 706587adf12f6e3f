-- The clock is added just where the member is named.
use Rattle.conflicts.proofs.Loops.{named_if}
use Rattle.conflicts.proofs.resolutions.push_named.Goals as goal

pub returns : goal.returns
returns c =
    named_if c.args.names.now.all.now c.args.member.now c.has.result _ _ c.has.ensures c.in_ok-push_if.ensures
