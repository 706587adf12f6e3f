-- Without memory for the name nothing is done.
use Rattle.std.proofs.Common.{inl, refl}
use Rattle.std.proofs.lemmas.Result.{err_from_is_err_and}
use Rattle.replica_core.specs.CallsFaults.{commit_failure}
use Rattle.replica_core.specs.declared.fault.CommitFault.TheVariants.{Memory}
use Rattle.replica_core.proofs.CallsEnds.{undone}
use Rattle.replica_core.proofs.calls.indexes.add_index.Goals as goal

pub returns-in_err-name : goal.returns-in_err-name
returns-in_err-name g c =
    let p = err_from_is_err_and c.from_residual.result c.from_residual.ensures.1 in
    rw (p.1, p.2) (undone g.R.Replica.known g.R.Replica.is_open g.R.Replica.crash commit_failure
    c.args.replica.now _ Memory
    c.requires.ready (λ found h. g.met.R.Replica.settled c.args.replica.now found c.requires.ready h) (inl refl))
