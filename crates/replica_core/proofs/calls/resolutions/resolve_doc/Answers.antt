-- A refusal is the one of the definition.
use Rattle.std.proofs.Common.{◌≡◌, ◌⊎◌, subst, Result, Err}
use Rattle.std.proofs.lemmas.Result.{err_from_is_err_and}
use Rattle.std.specs.Option.{option_copied}
use Rattle.conflicts.specs.Making.{resolved}
use Rattle.conflicts.specs.declared.accept.Accept.{Accept}
use Rattle.conflicts.specs.declared.resolutions.ResolveFault.{ResolveFault}
use Rattle.conflicts.specs.declared.resolutions.ResolveFault.TheVariants as resolve
use Rattle.replica_state.specs.Held.{Held, meaning}
use Rattle.replica_core.specs.Replica.{state_in}
use Rattle.replica_core.specs.CallsFaults.{resolve_failure, resolve_refusal}
use Rattle.replica_core.proofs.CallsEnds.{undone}
use Rattle.replica_core.proofs.CallsMade.{resolve_undone, refused_is}
use Rattle.replica_core.proofs.calls.resolutions.resolve_doc.Goals as goal

pub returns-in_err-resolution : goal.returns-in_err-resolution
returns-in_err-resolution g c =
    let p = err_from_is_err_and c.from_residual.result c.from_residual.ensures.1 in
    let fault = c.in_err-resolution.field-0.0 in
    let now = (g.R.Replica.known c.args.replica.now).state in
    let made : ◌⊎◌ (◌≡◌ {A = Result Accept ResolveFault} (Err fault) (Err resolve.Memory))
    (Err fault ≡ (resolved ((meaning now).document c.args.id.now) c.args.named.now
    (option_copied c.args.content) now.uid)) =
    subst (λ (h : Held). ◌⊎◌ (◌≡◌ {A = Result Accept ResolveFault} (Err fault) (Err resolve.Memory))
    (Err fault ≡ (resolved ((meaning h).document c.args.id.now) c.args.named.now
    (option_copied c.args.content) h.uid))) c.state.ensures c.in_err-resolution.ensures.made in
    rw (p.1, p.2) (undone g.R.Replica.known g.R.Replica.is_open g.R.Replica.crash resolve_failure c.args.replica.now _
    (resolve_refusal fault)
    c.requires (λ found h. g.met.R.Replica.settled c.args.replica.now found c.requires h)
    (resolve_undone _ fault
    (refused_is resolve_refusal c.args.seed (state_in (g.R.Replica.known c.args.replica.now)) c.args.id.now
    (resolved ((meaning now).document c.args.id.now) c.args.named.now (option_copied c.args.content) now.uid)
    resolve.Memory fault made)))
