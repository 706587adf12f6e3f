-- The comma, the digits and the white space, each as a run passes it.
use Rattle.expr_parser.proofs.Steps.{width_first, width_next, width_done}
use Rattle.expr_parser.proofs.descent.width_behind.Goals as goal

pub loop-longer-init : goal.loop-longer-init
loop-longer-init c =
    width_first c.args.reader.now c.takes.new.self c.pass_white.new.self c.if-not-takes.ensures c.pass_white.ensures

pub loop-longer-preserved : goal.loop-longer-preserved
loop-longer-preserved c =
    let d = c.in-Some.ensures in
    width_next c.args.reader.now c.loop-longer.reader c.digit_behind.new.self c.loop-longer.width d.0 c.in-Some.longer
    c.loop-longer.invariant d.1 d.2 d.3

pub returns-clause-goes : goal.returns-clause-goes
returns-clause-goes c =
    (width_done c.args.reader.now c.loop-longer.reader c.digit_behind.new.self c.pass_white-2.new.self
    c.loop-longer.width c.loop-longer.invariant c.in_default.ensures c.if-width-eq0.false c.pass_white-2.ensures).0

pub returns-clause-shorter : goal.returns-clause-shorter
returns-clause-shorter c =
    (width_done c.args.reader.now c.loop-longer.reader c.digit_behind.new.self c.pass_white-2.new.self
    c.loop-longer.width c.loop-longer.invariant c.in_default.ensures c.if-width-eq0.false c.pass_white-2.ensures).1
