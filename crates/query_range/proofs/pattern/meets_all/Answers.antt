use Rattle.query_range.proofs.Reading.{other_width}
use Rattle.query_range.proofs.pattern.meets_all.Goals as goal

pub returns-then-parts-texts : goal.returns-then-parts-texts
returns-then-parts-texts c = other_width c.args.parts.now c.args.texts.now c.if-parts-texts.true
