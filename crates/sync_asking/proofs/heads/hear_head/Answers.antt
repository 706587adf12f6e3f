use Rattle.std.proofs.Common.{◌++◌, Ok, subst, sym}
use Rattle.sync_http.specs.Hearing.{HearsReply}
use Rattle.sync_http.specs.declared.heads.Heard.TheVariants.{NotYet}
use Rattle.sync_asking.specs.Heard.{HasNoHead}
use Rattle.sync_asking.specs.inner.Heard.{SaysHead}
use Rattle.sync_asking.proofs.Given.{err_so, given_is, given_then}
use Rattle.sync_asking.proofs.Lengths.{no_head_yet}
use Rattle.sync_asking.proofs.heads.hear_head.Goals as goal

pub returns-in-Err-hear-clause-none : goal.returns-in-Err-hear-clause-none
returns-in-Err-hear-clause-none g c =
    let heard = c.loop-heard.heard in
    let so_far = c.loop-heard.invariant in
    let now = c.in-Err-hear.ensures.given in
    let hears : HearsReply heard (Ok NotYet) =
    subst (λ b. HearsReply b (Ok NotYet)) c.as_slice.ensures
    (subst (λ o. SaysHead c.as_slice.result.now (Ok o)) c.in-Ok-None.field-0-is c.in-Ok-None.ensures.says) in (
      heard ++ now.0,
      given_then (g.L.Link.known c.args.link.now) (g.L.Link.known c.loop-heard.link) (g.L.Link.known c.hear.new.link)
          heard now.0 so_far.0 so_far.1 now.1,
      subst (λ f. HasNoHead (heard ++ now.0) f) (sym c.ask_fault.ensures)
          (no_head_yet c.in-Err-hear.fault heard now.0 hears now.2),
    )

pub returns-clause-none : goal.returns-clause-none
returns-clause-none g c =
    let heard = c.loop-heard.heard in
    let so_far = c.loop-heard.invariant in
    err_so c.whole_head_in.result _ c.whole_head_in.ensures.none
    (λ fault k. (
      heard,
      given_is (g.L.Link.known c.args.link.now) (g.L.Link.known c.loop-heard.link) heard so_far.0 so_far.1,
      subst (λ b. HasNoHead b fault) c.as_slice-2.ensures k.0,
    ))
