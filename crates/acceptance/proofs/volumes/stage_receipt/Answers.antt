-- What was kept stays so, whatever became of the revision.
use Rattle.replica_core.specs.CallsFaults.{take_failure}
use Rattle.acceptance.proofs.Staged.{still_kept}
use Rattle.acceptance.proofs.volumes.stage_receipt.Goals as goal

pub returns : goal.returns
returns g c kept stages =
    still_kept g.R.Replica.known g.R.Replica.stages g.R.Replica.crash take_failure _ kept c.args.replica.now
    c.stage_if_newer.new.replica c.stage_if_newer.result (c.stage_if_newer.ensures kept stages)
