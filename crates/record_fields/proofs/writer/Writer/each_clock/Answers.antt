use Rattle.std.proofs.Common.{ap, sym, ◌∙◌, add-one, length}
use Rattle.record_fields.specs.Named.{clock}
use Rattle.record_fields.specs.declared.format.Format.TheVariants.{Second}
use Rattle.record_fields.specs.Writing.{with_field}
use Rattle.record_fields.proofs.Writings.{each_none, each_next}
use Rattle.record_fields.proofs.writer.Writer.each_clock.Goals as goal

pub loop-value-init : goal.loop-value-init
loop-value-init c = sym (each_none (clock Second) (length c.args.values.now) c.args.self.now)

pub loop-value-preserved : goal.loop-value-preserved
loop-value-preserved c =
    rw add-one
    (c.in_ok-clock.ensures
    ∙ ap (with_field (clock Second) c.value-item.result) c.loop-value.invariant
    ∙ sym (each_next (clock Second) (length c.args.values.now) c.args.values.now c.loop-value.value-index
    c.value-item.result c.args.self.now c.loop-value-test.true c.value-item.is))
