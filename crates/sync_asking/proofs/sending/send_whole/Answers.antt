use Rattle.std.proofs.Common.{◌∙◌, ap}
use Rattle.sync_link.specs.Links.{sent_more}
use Rattle.sync_asking.proofs.Asks.{begin_fails, finish_fails, on_err, send_fails}
use Rattle.sync_asking.proofs.sending.send_whole.Goals as goal

pub returns-in_err-begin-clause-given_up : goal.returns-in_err-begin-clause-given_up
returns-in_err-begin-clause-given_up g c =
    on_err c.from_residual.result _
    (begin_fails g.L.Link.serves g.L.Link.stops (g.L.Link.known c.args.link.now) (g.L.Link.known c.begin.new.self)
    c.args.to.now c.args.request.now _ c.in_err-begin.ensures.begins)

pub returns-in_err-send-clause-given_up : goal.returns-in_err-send-clause-given_up
returns-in_err-send-clause-given_up g c =
    on_err c.from_residual-in_err-send.result _
    (send_fails g.L.Link.serves g.L.Link.stops (g.L.Link.known c.args.link.now) (g.L.Link.known c.begin.new.self)
    (g.L.Link.known c.send.new.self) c.args.to.now c.args.request.now c.in_err-send.field-0.0 c.in_ok-begin.ensures.begins
    c.in_err-send.ensures.sends)

pub returns-clause-given_up : goal.returns-clause-given_up
returns-clause-given_up g c =
    finish_fails g.L.Link.serves g.L.Link.stops (g.L.Link.known c.args.link.now) (g.L.Link.known c.send.new.self)
    (g.L.Link.known c.finish.new.self) c.args.to.now c.args.request.now c.finish.result
    (c.in_ok-send.ensures.sends ∙ ap (sent_more c.args.request.now) c.in_ok-begin.ensures.begins)
    c.finish.ensures.finishes c.finish.ensures.peer
