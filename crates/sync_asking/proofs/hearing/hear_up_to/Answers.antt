use Rattle.std.proofs.Common.{◌++◌, ◌<◌, sym, subst, ◌∙◌}
use Rattle.sync_asking.proofs.Given.{below, err_to, given_then}
use Rattle.sync_asking.proofs.hearing.hear_up_to.Goals as goal

pub returns-in_err-hear-clause-given : goal.returns-in_err-hear-clause-given
returns-in_err-hear-clause-given g c =
    let so_far = c.loop-heard.invariant in
    let now = c.in_err-hear.ensures.given in
    err_to c.from_residual.result _ c.from_residual.ensures.1
    (λ f e. (
      so_far.0 ++ now.0,
      given_then (g.L.Link.known c.args.link.now) (g.L.Link.known c.loop-heard.link) (g.L.Link.known c.hear.new.link)
          so_far.0 now.0 so_far.2 so_far.3 now.1,
      λ failed. below c.args.heard.now c.loop-heard.heard so_far.0 now.0 c.args.end so_far.1
          (subst (λ n. n < c.args.end) c.len.ensures c.loop-heard-test.true)
          (now.2 (sym e ∙ failed)),
    ))
