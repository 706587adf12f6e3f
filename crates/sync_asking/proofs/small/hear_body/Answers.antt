use Rattle.std.proofs.Common.{◌≡◌, ◌++◌, Err, subst, sym}
use Rattle.std.specs.Io.KnownBytes.{Consumes}
use Rattle.sync_link.specs.Links.{given_more}
use Rattle.sync_asking.specs.Heard.{HearsSmall}
use Rattle.sync_asking.proofs.Given.{consumed_twice, given_is, given_then, more_twice}
use Rattle.sync_asking.proofs.SmallReplies.{has_body, small_no_head, small_over, small_short, small_status}
use Rattle.sync_asking.proofs.small.hear_body.Goals as goal

pub returns-in-Err-clause-none : goal.returns-in-Err-clause-none
returns-in-Err-clause-none g c =
    let none = c.in-Err.ensures.none in (none.0, none.1, small_no_head none.0 c.in-Err.fault none.2)

pub returns-then-found-ne200-clause-none : goal.returns-then-found-ne200-clause-none
returns-then-found-ne200-clause-none g c =
    let heard = c.hear_head.new.heard in
    let given = c.in-Ok.ensures.given in (
      heard,
      given_is (g.L.Link.known c.args.link.now) (g.L.Link.known c.hear_head.new.link) heard given.0 given.1,
      small_status heard c.in-Ok.found c.in-Ok.ensures.says c.if-found-ne200.true,
    )

pub returns-then-found-gt-MOST_POSITION_BODY_BYTES-clause-none :
    goal.returns-then-found-gt-MOST_POSITION_BODY_BYTES-clause-none
returns-then-found-gt-MOST_POSITION_BODY_BYTES-clause-none g c =
    let heard = c.hear_head.new.heard in
    let given = c.in-Ok.ensures.given in (
      heard,
      given_is (g.L.Link.known c.args.link.now) (g.L.Link.known c.hear_head.new.link) heard given.0 given.1,
      small_over heard c.in-Ok.found c.in-Ok.ensures.says c.if-found-ne200.false
          c.if-found-gt-MOST_POSITION_BODY_BYTES.true,
    )

pub returns-in-Ok-hear_up_to-clause-given : goal.returns-in-Ok-hear_up_to-clause-given
returns-in-Ok-hear_up_to-clause-given g c =
    let k = g.L.Link.known c.args.link.now in
    let mid = g.L.Link.known c.hear_head.new.link in
    let after = g.L.Link.known c.hear_up_to.new.link in
    let heard = c.hear_head.new.heard in
    let given = c.in-Ok.ensures.given in
    let added = c.in-Ok-hear_up_to.ensures.added in (
      subst (λ bytes. after ≡ given_more bytes k) (sym added.1) (more_twice k mid after heard added.0 given.0 added.2),
      subst (λ bytes. Consumes k.coming after.coming bytes) (sym added.1)
          (consumed_twice k.coming mid.coming after.coming heard added.0 given.1 added.3),
    )

pub returns-in-Ok-hear_up_to-clause-body : goal.returns-in-Ok-hear_up_to-clause-body
returns-in-Ok-hear_up_to-clause-body g c =
    let added = c.in-Ok-hear_up_to.ensures.added in
    has_body c.hear_head.new.heard added.0 c.hear_up_to.new.heard c.in-Ok.found added.1 c.in-Ok.ensures.says
    c.if-found-ne200.false c.in-Ok.ensures.within.1 c.if-found-gt-MOST_POSITION_BODY_BYTES.false
    c.in-Ok-hear_up_to.ensures.end

pub returns-in-Err-hear_up_to-clause-none : goal.returns-in-Err-hear_up_to-clause-none
returns-in-Err-hear_up_to-clause-none g c =
    let heard = c.hear_head.new.heard in
    let first = c.in-Ok.ensures.given in
    let more = c.in-Err-hear_up_to.ensures.given in (
      heard ++ more.0,
      given_then (g.L.Link.known c.args.link.now) (g.L.Link.known c.hear_head.new.link)
          (g.L.Link.known c.hear_up_to.new.link) heard more.0 first.0 first.1 more.1,
      subst (λ f. HearsSmall (heard ++ more.0) (Err f)) (sym c.ask_fault.ensures)
          (small_short heard more.0 c.in-Ok.found c.in-Err-hear_up_to.fault c.in-Ok.ensures.says
          c.if-found-ne200.false c.in-Ok.ensures.within.0 c.if-found-gt-MOST_POSITION_BODY_BYTES.false more.2),
    )
