-- One move is decided, and made.
use Rattle.std.proofs.Common.{Ok, Err, subst, sym}
use Rattle.replica_core.specs.Replica.{state_in}
use Rattle.sync_phases.specs.Phases as phases
use Rattle.sync_phases.specs.Seen.{Exchanged}
use Rattle.sync_phases.specs.declared.fault.SyncFault.{SyncFault}
use Rattle.sync_session.specs.Made.{Does}
use Rattle.sync_session.specs.Seen.{exchanged_in}
use Rattle.sync_session.proofs.Settled.{settled_err, settled_ok}
use Rattle.sync_session.proofs.session.Taking.settle.Goals as goal

pub returns-in-Ok : goal.returns-in-Ok
returns-in-Ok g c =
    let old = c.args.replica.now in
    let new = c.settle_at.new.replica in
    let x = exchanged_in c.self.inside.course in
    subst (λ (y : Exchanged). Does g.R.Replica.known g.R.Replica.is_open g.R.Replica.crash
    (phases.settle y (state_in (g.R.Replica.known old))) old new (Ok x)) c.self.view_is
    (settled_ok g.R.Replica.known g.R.Replica.is_open g.R.Replica.crash (λ r o. g.met.R.Replica.opened r o) x old new
    c.in-Ok.ensures)

pub returns-in-Err : goal.returns-in-Err
returns-in-Err g c =
    let old = c.args.replica.now in
    let new = c.settle_at.new.replica in
    let x = exchanged_in c.self.inside.course in
    subst (λ (y : Exchanged). Does g.R.Replica.known g.R.Replica.is_open g.R.Replica.crash
    (phases.settle y (state_in (g.R.Replica.known old))) old new (Err c.take_fault.result))
    c.self.view_is
    (subst (λ (f : SyncFault). Does g.R.Replica.known g.R.Replica.is_open g.R.Replica.crash
    (phases.settle x (state_in (g.R.Replica.known old))) old new (Err f))
    (sym c.take_fault.ensures.ends)
    (settled_err g.R.Replica.known g.R.Replica.is_open g.R.Replica.crash (λ r o. g.met.R.Replica.opened r o) x
    c.in-Err.fault old new c.in-Err.ensures))
