-- The calls behind the last sync.
use Rattle.std.proofs.Common.{ℕ, ◌-◌, List, refl, arith}
use Rattle.disk_model.specs.Disk.{settled}
use Rattle.disk_model.specs.Log.{step}
use Rattle.disk_model.specs.Losses.{lost}
use Rattle.disk_model.proofs.Histories.{through-since}
use Rattle.disk_model.proofs.calls.settled_calls.Goals as goal

pub returns-in-Sync-clause-since : goal.returns-in-Sync-clause-since
returns-in-Sync-clause-since c file =
    through-since step settled (λ after u. refl) c.args.calls.now (c.loop-begin.begin - 1) c.loop-begin.begin _ file
    (omega arith) (omega arith) c.in-Sync.is

pub returns-in-Sync-clause-left : goal.returns-in-Sync-clause-left
returns-in-Sync-clause-left c file choice =
    through-since (lost choice file) (λ (bytes : List ℕ). bytes) (λ after image. refl) c.args.calls.now
    (c.loop-begin.begin - 1) c.loop-begin.begin _ file (omega arith) (omega arith) c.in-Sync.is
