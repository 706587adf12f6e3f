use Rattle.std.proofs.Common.{◌≡◌, length, take}
use Rattle.record_fields.specs.Fields.{each}
use Rattle.record_fields.specs.Plain.{expression}
use Rattle.record_fields.specs.Reading.{texts_of}
use Rattle.record_fields.specs.Writing.{with_field}
use Rattle.record_fields.proofs.writer.Writer.each_expression.Given as goal

abbrev pub invariant-loop-value : goal.invariant-loop-value
invariant-loop-value l = l.self ≡ with_field (each expression (length l.values))
    (texts_of (take l.value-index l.values)) l.fn.self
