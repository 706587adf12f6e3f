-- The receipt is what was decided, and so is its end; what it answers is noted over the log as it is then.
use Rattle.std.proofs.Common.{◌∙◌, ap, inl, length, refl}
use Rattle.std.proofs.lemmas.Result.{err_from_is_err_and}
use Rattle.translog.specs.Log.{Log}
use Rattle.replica_state.specs.Held.{Held, meaning}
use Rattle.replica_core.proofs.CallsStaged.{staged_undone}
use Rattle.sync_exchange.specs.Faults.{exchange_failure}
use Rattle.sync_exchange.specs.declared.fault.ExchangeFault.TheVariants.{Memory}
use Rattle.sync_exchange.proofs.Cases.{applied_err, applied_ok}
use Rattle.sync_exchange.proofs.Noted.{noted_then}
use Rattle.sync_exchange.proofs.apply.apply_one.Goals as goal

pub returns-in_err-id-clause-stages : goal.returns-in_err-id-clause-stages
returns-in_err-id-clause-stages g c =
    let p = err_from_is_err_and c.from_residual.result c.from_residual.ensures.1 in
    rw (p.1, p.2) (staged_undone g.R.Replica.known g.R.Replica.stages g.R.Replica.crash exchange_failure
    c.args.replica.now _ Memory (λ kept found k h. g.met.R.Replica.staged_leaves c.args.replica.now kept found k h)
    (inl refl))

pub returns-in_err-taken-clause-stages : goal.returns-in_err-taken-clause-stages
returns-in_err-taken-clause-stages g c =
    let p = err_from_is_err_and c.from_residual-in_err-taken.result c.from_residual-in_err-taken.ensures.1 in
    rw (p.1, p.2) (applied_err g.R.Replica.known g.R.Replica.stages g.R.Replica.crash c.args.seed c.args.source.now
    c.args.doc.now c.in_ok-id.moved c.args.replica.now c.stage_if_newer.new.replica c.in_err-taken.field-0.0
    c.in_ok-id.ensures.moved c.in_err-taken.ensures)

pub returns-clause-stages : goal.returns-clause-stages
returns-clause-stages g c =
    applied_ok g.R.Replica.known g.R.Replica.stages g.R.Replica.crash c.args.seed c.args.source.now c.args.doc.now
    c.in_ok-id.moved c.args.replica.now c.stage_if_newer.new.replica c.in_ok-taken.taken c.in_ok-id.ensures.moved
    c.in_ok-taken.ensures

pub returns-clause-seen : goal.returns-clause-seen
returns-clause-seen g c held sees change =
    noted_then c.in_ok-taken.taken.outcome c.in_ok-id.id c.args.doc.now.id c.generation.result
    (meaning (g.R.Replica.known c.stage_if_newer.new.replica).state) c.args.seen.now.pairs c.ready.new.seen.pairs
    c.note.new.self.pairs held c.in_ok-id.ensures.id
    (c.generation.ensures.value ∙ ap (λ (l : Log). length l.entries) c.log.ensures
    ∙ ap (λ (h : Held). length h.log.entries) c.state.ensures)
    c.ready.ensures.pairs c.note.ensures sees change
