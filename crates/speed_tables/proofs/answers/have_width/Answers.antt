-- The key at the place has the width too.
use Rattle.std.proofs.Common.{ap, length, arith}
use Rattle.query_range.proofs.Alone.{width_more}
use Rattle.speed_tables.proofs.answers.have_width.Goals as goal

pub loop-place-preserved : goal.loop-place-preserved
loop-place-preserved g c =
    width_more c.args.table.now.pairs c.loop-place.place c.args.width
    (c.in-Some.key.now, c.in-Some.field-0-1.now) c.in-Some.ensures.value
    (omega (arith, ap length c.texts.ensures.value)) c.loop-place.invariant
