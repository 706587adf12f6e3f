-- What follows from the info is what is defined.
use Rattle.std.proofs.Common.{List, ℕ, Ok, Err, subst}
use Rattle.replica_core.specs.Replica.{state_in}
use Rattle.replica_state.specs.Held.{Held, meaning}
use Rattle.sync_stream.specs.Messages.{SaysInfo}
use Rattle.sync_stream.specs.Requests.{ForInfo}
use Rattle.sync_phases.specs.Phases.{ask, small_heard}
use Rattle.sync_phases.specs.Seen.{Begun}
use Rattle.sync_session.specs.Asked.{Asks}
use Rattle.sync_session.proofs.Infos.{informs, no_info, not_informed}
use Rattle.sync_session.proofs.session.Asking.ask.Goals as goal

pub returns-in-Ok-clause-asks : goal.returns-in-Ok-clause-asks
returns-in-Ok-clause-asks g c =
    let k = g.L.Link.known c.args.link.now in
    let after = g.L.Link.known c.hear_info.new.link in
    let x : Begun = record { to = c.self.inside.to; seed = c.self.inside.seed } in
    subst (λ (y : Begun). Asks g.L.Link.serves g.L.Link.stops k after y.to (state_in (g.R.Replica.known c.args.replica.now)).uid
    ForInfo SaysInfo (λ heard. (ask y (state_in (g.R.Replica.known c.args.replica.now)) heard).ends) c.informed.result)
    c.self.view_is
    (subst (λ (h : Held). Asks g.L.Link.serves g.L.Link.stops k after x.to (meaning h).uid ForInfo SaysInfo
    (λ heard. (ask x (meaning h) heard).ends) c.informed.result) c.state-state.ensures
    (informs g.L.Link.serves g.L.Link.stops k after x (meaning c.state-state.result.now) c.in-Ok.info c.informed.result
    (subst (λ (u : List ℕ). Asks g.L.Link.serves g.L.Link.stops k after x.to u ForInfo SaysInfo small_heard
    (Ok c.in-Ok.info)) c.uid.ensures c.in-Ok.ensures.asks)
    c.informed.ensures.comes))

pub returns-in-Err-clause-asks : goal.returns-in-Err-clause-asks
returns-in-Err-clause-asks g c =
    let k = g.L.Link.known c.args.link.now in
    let after = g.L.Link.known c.hear_info.new.link in
    let x : Begun = record { to = c.self.inside.to; seed = c.self.inside.seed } in
    subst (λ (y : Begun). Asks g.L.Link.serves g.L.Link.stops k after y.to (state_in (g.R.Replica.known c.args.replica.now)).uid
    ForInfo SaysInfo (λ heard. (ask y (state_in (g.R.Replica.known c.args.replica.now)) heard).ends) (Err c.in-Err.fault))
    c.self.view_is
    (subst (λ (h : Held). Asks g.L.Link.serves g.L.Link.stops k after x.to (meaning h).uid ForInfo SaysInfo
    (λ heard. (ask x (meaning h) heard).ends) (Err c.in-Err.fault)) c.state-state.ensures
    (not_informed g.L.Link.serves g.L.Link.stops k after x (meaning c.state-state.result.now) c.in-Err.fault
    (subst (λ (u : List ℕ). Asks g.L.Link.serves g.L.Link.stops k after x.to u ForInfo SaysInfo small_heard
    (no_info c.in-Err.fault)) c.uid.ensures c.in-Err.ensures.asks)))
