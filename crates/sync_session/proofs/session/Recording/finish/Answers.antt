-- The question was asked.
use Rattle.std.proofs.Common.{Ok, Err, subst, sym, ◌∙◌}
use Rattle.replica_core.specs.Replica.{state_in}
use Rattle.replica_state.specs.Held.{Held, meaning}
use Rattle.sync_phases.specs.Phases.{summary, told_by}
use Rattle.sync_phases.specs.Seen.{Exchanged}
use Rattle.sync_phases.specs.declared.summary.Summary.{Summary}
use Rattle.std.specs.Prelude.{true}
use Rattle.sync_session.specs.Asked.{Finishes}
use Rattle.sync_session.specs.Seen.{exchanged_in}
use Rattle.sync_session.proofs.Told.{not_told, told}
use Rattle.sync_session.proofs.session.Recording.finish.Goals as goal

pub returns-in-Ok-clause-finishes : goal.returns-in-Ok-clause-finishes
returns-in-Ok-clause-finishes g c =
    let k = g.L.Link.known c.args.link.now in
    let after = g.L.Link.known c.tell_end.new.link in
    let h = c.state-state.result.now in
    let x = exchanged_in c.self.inside.course in
    let s = state_in (g.R.Replica.known c.args.replica.now) in
    subst (λ (y : Exchanged). Finishes g.L.Link.serves g.L.Link.stops k after s.uid y (told_by y s)
    (Ok c.summed-in-Ok.result)) c.self.view_is
    (subst (λ (r : Summary). Finishes g.L.Link.serves g.L.Link.stops k after s.uid x (told_by x s) (Ok r))
    (sym c.summed-in-Ok.ensures)
    (subst (λ (i : Held). Finishes g.L.Link.serves g.L.Link.stops k after (meaning i).uid x (told_by x (meaning i))
    (Ok (summary x true))) c.state-state.ensures
    (told g.L.Link.serves g.L.Link.stops k after (meaning h).uid x (meaning h)
    (sym c.has_all.ensures ∙ c.if-not-has_all.false) c.in-Ok.ensures.asks)))

pub returns-in-Err-clause-finishes : goal.returns-in-Err-clause-finishes
returns-in-Err-clause-finishes g c =
    let k = g.L.Link.known c.args.link.now in
    let after = g.L.Link.known c.tell_end.new.link in
    let h = c.state-state.result.now in
    let x = exchanged_in c.self.inside.course in
    let s = state_in (g.R.Replica.known c.args.replica.now) in
    subst (λ (y : Exchanged). Finishes g.L.Link.serves g.L.Link.stops k after s.uid y (told_by y s)
    (Err c.in-Err.fault)) c.self.view_is
    (subst (λ (i : Held). Finishes g.L.Link.serves g.L.Link.stops k after (meaning i).uid x (told_by x (meaning i))
    (Err c.in-Err.fault)) c.state-state.ensures
    (not_told g.L.Link.serves g.L.Link.stops k after (meaning h).uid x (meaning h) c.in-Err.fault
    (sym c.has_all.ensures ∙ c.if-not-has_all.false) c.in-Err.ensures.asks))
