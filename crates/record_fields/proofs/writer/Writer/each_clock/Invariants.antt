use Rattle.std.proofs.Common.{◌≡◌, length, take}
use Rattle.record_fields.specs.Fields.{each}
use Rattle.record_fields.specs.Named.{clock}
use Rattle.record_fields.specs.declared.format.Format.TheVariants.{Second}
use Rattle.record_fields.specs.Writing.{with_field}
use Rattle.record_fields.proofs.writer.Writer.each_clock.Given as goal

abbrev pub invariant-loop-value : goal.invariant-loop-value
invariant-loop-value l = l.self ≡ with_field (each (clock Second) (length l.values))
    (take l.value-index l.values) l.fn.self
