-- The request is the one that was written.
use Rattle.std.proofs.Common.{[], inl, refl, subst, ◌∙◌}
use Rattle.sync_asking.specs.Carried.{Carries}
use Rattle.sync_session.proofs.Replies.{unasked}
use Rattle.sync_session.proofs.asking.hear_info.Goals as goal

pub returns-in-Ok-clause-asks : goal.returns-in-Ok-clause-asks
returns-in-Ok-clause-asks g c =
    let asks = c.info_by.ensures.asks in (
      asks.0,
      subst (λ text. Carries g.L.Link.serves g.L.Link.stops (g.L.Link.known c.args.link.now)
          (g.L.Link.known c.info_by.new.link) c.args.to.now text asks.0) (c.as_slice.ensures ∙ c.in-Ok.ensures) asks.1,
      asks.2,
    )

pub returns-in-Err-clause-asks : goal.returns-in-Err-clause-asks
returns-in-Err-clause-asks g c =
    ([], unasked g.L.Link.serves g.L.Link.stops (g.L.Link.known c.args.link.now) c.args.to.now _, inl refl)
