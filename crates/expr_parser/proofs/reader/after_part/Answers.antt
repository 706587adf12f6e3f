-- At the end nothing is left that a part could have.
use Rattle.std.proofs.Common.{chars, sym, ◌∙◌}
use Rattle.expr_parser.proofs.Texts.{nothing_left}
use Rattle.expr_parser.proofs.reader.after_part.Goals as goal

pub returns-in_default : goal.returns-in_default
returns-in_default c = sym (nothing_left (chars c.loop-first.rest.now) (c.in_default.ensures))
    ∙ sym c.loop-first.invariant.1
