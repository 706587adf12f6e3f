-- `trim_start` passes white space.
use Rattle.expr_parser.proofs.Texts.{chars_trimmed}
use Rattle.expr_parser.proofs.reader.after_white.Goals as goal

pub returns : goal.returns
returns c = chars_trimmed c.args.text.now c.trim_start.result.now c.utf8.text c.trim_start.ensures.trim
