use Rattle.std.proofs.Common.{◌≡◌, ◌-◌}
use Rattle.record_fields.specs.Fields.{each_read}
use Rattle.record_fields.specs.Named.{clock}
use Rattle.record_fields.proofs.Loops.{with_front}
use Rattle.record_fields.proofs.reader.Reader.each_clock.Given as goal

abbrev pub invariant-loop : goal.invariant-loop
invariant-loop l = with_front l.clocks (each_read (clock l.format) (l.count - l.counter) l.self)
    ≡ each_read (clock l.format) l.count l.fn.self
