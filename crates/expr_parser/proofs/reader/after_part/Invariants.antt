use Rattle.std.proofs.Common.{◌≡◌, length}
use denote.Text.{Utf8}
use denote.Shadow.{shadow}
use Rattle.std.specs.Str.{chars}
use Rattle.expr_parser.specs.Grammar.{is_part}
use Rattle.expr_parser.specs.Descent.{rest_of}
use Rattle.expr_parser.proofs.reader.after_part.Given as goal

abbrev pub invariant-loop-first : goal.invariant-loop-first
invariant-loop-first l = shadow (Utf8 l.rest) × (rest_of is_part (chars l.text) ≡ rest_of is_part (chars l.rest))

abbrev pub decreases-loop-first : goal.decreases-loop-first
decreases-loop-first l = length l.rest
