use Rattle.std.proofs.Common.{◌≡◌, ap, sym, subst, ◌∙◌, ◌^◌, ◌<◌, add-one, length}
use Rattle.std.specs.Int.{w16}
use Rattle.record_fields.specs.Plain.{expression, text}
use Rattle.record_fields.specs.inner.Reading.{text_of}
use Rattle.record_fields.specs.Writing.{with_field}
use Rattle.record_fields.proofs.Writings.{each_none, texts_next, text_short}
use Rattle.record_fields.proofs.writer.Writer.each_expression.Goals as goal

pub loop-value-init : goal.loop-value-init
loop-value-init c = sym (each_none expression (length c.args.values.now) c.args.self.now)

pub short_text-requires : goal.short_text-requires
short_text-requires c =
    let same : c.as_bytes.result.now ≡ text_of c.value-item.result = c.as_bytes.ensures.value ∙ c.as_str.ensures
    ∙ c.in_ok-text.ensures.value in
    subst (λ s. length s < 2 ^ 16) (sym same)
    (text_short c.args.values.now c.loop-value.value-index c.value-item.result c.requires c.loop-value-test.true
    c.value-item.is)

pub loop-value-preserved : goal.loop-value-preserved
loop-value-preserved c =
    let same : c.as_bytes.result.now ≡ text_of c.value-item.result = c.as_bytes.ensures.value ∙ c.as_str.ensures
    ∙ c.in_ok-text.ensures.value in
    rw add-one
    (c.in_ok-short_text.ensures
    ∙ ap (λ s. with_field (text w16) s c.loop-value.self) same
    ∙ ap (with_field (text w16) (text_of c.value-item.result)) c.loop-value.invariant
    ∙ sym (texts_next (length c.args.values.now) c.args.values.now c.loop-value.value-index c.value-item.result
    c.args.self.now c.loop-value-test.true c.value-item.is))
