-- An id is short.
use Rattle.std.proofs.Common.{◌≡◌}
use Rattle.record_fields.proofs.PlainLaws.{id_short}
use Rattle.record_fields.proofs.writer.Writer.id.Goals as goal

pub short_text-requires : goal.short_text-requires
short_text-requires g c =
    let same : c.as_bytes.result.now ≡ c.args.value.now = cc in
    id_short g.F.FormOf.form c.args.value.now c.as_bytes.result.now c.as_str.ensures.id same
