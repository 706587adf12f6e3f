use Rattle.std.proofs.lemmas.Result.{err_from_is_err_and}
use Rattle.record_fields.specs.Fields.{each_read}
use Rattle.record_fields.specs.Named.{clock}
use Rattle.record_fields.proofs.Loops.{goes_on, ends, is_done}
use Rattle.record_fields.proofs.reader.Reader.each_clock.Goals as goal

pub returns-in_err-clock : goal.returns-in_err-clock
returns-in_err-clock c =
    let p = err_from_is_err_and c.from_residual.result c.from_residual.ensures.1 in
    rw (p.1, p.2) (ends (clock c.args.format) c.in_err-clock.field-0.0 c.loop.clocks c.args.count c.loop.counter
    c.loop.self (each_read (clock c.args.format) c.args.count c.args.self.now) c.loop-test.true c.in_err-clock.ensures
    c.loop.invariant)

pub loop-preserved : goal.loop-preserved
loop-preserved c =
    rw c.in_ok-push.ensures.ok
    (goes_on (clock c.args.format) c.loop.clocks c.args.count c.loop.counter c.loop.self c.in_ok-clock.clock
    c.clock.new.self (each_read (clock c.args.format) c.args.count c.args.self.now) c.loop-test.true
    c.in_ok-clock.ensures c.loop.invariant)

pub returns : goal.returns
returns c = is_done (clock c.args.format) c.loop.clocks c.args.count c.loop.counter c.loop.self
    (each_read (clock c.args.format) c.args.count c.args.self.now) c.loop-test.false c.loop.invariant
