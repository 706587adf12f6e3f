use Rattle.std.proofs.lemmas.Result.{err_from_is_err_and}
use Rattle.record_fields.specs.Fields.{each_read}
use Rattle.record_fields.specs.Named.{entry}
use Rattle.record_fields.proofs.Loops.{goes_on, ends, is_done}
use Rattle.record_fields.proofs.reader.Reader.each_entry.Goals as goal

pub returns-in_err-entry : goal.returns-in_err-entry
returns-in_err-entry c =
    let p = err_from_is_err_and c.from_residual-in_err-entry.result c.from_residual-in_err-entry.ensures.1 in
    rw (p.1, p.2) (ends entry c.in_err-entry.field-0.0 c.loop.entries c.args.count c.loop.counter c.loop.self
    (each_read entry c.args.count c.args.self.now) c.loop-test.true c.in_err-entry.ensures c.loop.invariant)

pub loop-preserved : goal.loop-preserved
loop-preserved c =
    rw c.in_ok-push.ensures.ok
    (goes_on entry c.loop.entries c.args.count c.loop.counter c.loop.self c.in_ok-entry.entry c.entry.new.self
    (each_read entry c.args.count c.args.self.now) c.loop-test.true c.in_ok-entry.ensures c.loop.invariant)

pub returns : goal.returns
returns c = is_done entry c.loop.entries c.args.count c.loop.counter c.loop.self
    (each_read entry c.args.count c.args.self.now) c.loop-test.false c.loop.invariant
