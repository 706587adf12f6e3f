-- A refusal is the one of the definition.
use Rattle.std.proofs.Common.{◌≡◌, ◌⊎◌, subst, Result, Err}
use Rattle.std.proofs.lemmas.Result.{err_from_is_err_and}
use Rattle.conflicts.specs.Making.{deleted}
use Rattle.conflicts.specs.declared.accept.Accept.{Accept}
use Rattle.conflicts.specs.declared.edits.EditFault.{EditFault}
use Rattle.conflicts.specs.declared.edits.EditFault.TheVariants as edit
use Rattle.replica_state.specs.Held.{Held, meaning}
use Rattle.replica_core.specs.Replica.{state_in}
use Rattle.replica_core.specs.CallsFaults.{put_failure, put_refusal}
use Rattle.replica_core.proofs.CallsEnds.{undone}
use Rattle.replica_core.proofs.CallsMade.{put_undone, refused_is}
use Rattle.replica_core.proofs.calls.documents.delete_doc.Goals as goal

pub returns-in_err-deletion : goal.returns-in_err-deletion
returns-in_err-deletion g c =
    let p = err_from_is_err_and c.from_residual.result c.from_residual.ensures.1 in
    let fault = c.in_err-deletion.field-0.0 in
    let now = (g.R.Replica.known c.args.replica.now).state in
    let made : ◌⊎◌ (◌≡◌ {A = Result Accept EditFault} (Err fault) (Err edit.Memory))
    (Err fault ≡ (deleted ((meaning now).document c.args.id.now) c.args.rev.now now.uid)) =
    subst (λ (h : Held). ◌⊎◌ (◌≡◌ {A = Result Accept EditFault} (Err fault) (Err edit.Memory))
    (Err fault ≡ (deleted ((meaning h).document c.args.id.now) c.args.rev.now h.uid))) c.state.ensures
    c.in_err-deletion.ensures.made in
    rw (p.1, p.2) (undone g.R.Replica.known g.R.Replica.is_open g.R.Replica.crash put_failure c.args.replica.now _
    (put_refusal fault)
    c.requires (λ found h. g.met.R.Replica.settled c.args.replica.now found c.requires h)
    (put_undone _ fault (refused_is put_refusal c.args.seed
    (state_in (g.R.Replica.known c.args.replica.now)) c.args.id.now
    (deleted ((meaning now).document c.args.id.now) c.args.rev.now now.uid) edit.Memory fault made)))
