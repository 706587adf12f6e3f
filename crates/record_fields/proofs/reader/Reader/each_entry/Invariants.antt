use Rattle.std.proofs.Common.{◌≡◌, ◌-◌}
use Rattle.record_fields.specs.Fields.{each_read}
use Rattle.record_fields.specs.Named.{entry}
use Rattle.record_fields.proofs.Loops.{with_front}
use Rattle.record_fields.proofs.reader.Reader.each_entry.Given as goal

abbrev pub invariant-loop : goal.invariant-loop
invariant-loop l = with_front l.entries (each_read entry (l.count - l.counter) l.self)
    ≡ each_read entry l.count l.fn.self
