use Rattle.sync_asking.proofs.Given.{given_is}
use Rattle.sync_asking.proofs.SmallReplies.{small_whole}
use Rattle.sync_asking.proofs.small.hear_small.Goals as goal

pub returns-in-Ok-clause-heard : goal.returns-in-Ok-clause-heard
returns-in-Ok-clause-heard g c =
    let heard = c.hear_body.new.heard in
    let given = c.in-Ok.ensures.given in (
      heard,
      given_is (g.L.Link.known c.args.link.now) (g.L.Link.known c.hear_body.new.link) heard given.0 given.1,
      small_whole heard c.in-Ok.found c.in-Ok.ensures.body,
    )
