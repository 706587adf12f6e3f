-- Where memory runs out before the call, nothing was done.
use Rattle.std.proofs.Common.{inl, refl}
use Rattle.std.proofs.lemmas.Result.{err_from_is_err_and}
use Rattle.replica_core.specs.CallsFaults.{take_failure}
use Rattle.replica_core.specs.declared.calls.receipts.TakeFault.TheVariants.{Memory}
use Rattle.replica_core.proofs.CallsEnds.{undone}
use Rattle.sync_session.proofs.settling.settle_at.Goals as goal

pub returns-in_err-moved : goal.returns-in_err-moved
returns-in_err-moved g c =
    let p = err_from_is_err_and c.from_residual.result c.from_residual.ensures.1 in
    rw (p.1, p.2) (undone g.R.Replica.known g.R.Replica.is_open g.R.Replica.crash take_failure c.args.replica.now _
    Memory c.requires (λ found h. g.met.R.Replica.settled c.args.replica.now found c.requires h) (inl refl))
