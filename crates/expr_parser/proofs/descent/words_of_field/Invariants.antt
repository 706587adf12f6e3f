use Rattle.std.proofs.Common.{◌≡◌, ◌<◌, length}
use denote.Text.{Utf8}
use denote.Shadow.{shadow}
use Rattle.expr_parser.specs.Grammar.{is_part}
use Rattle.expr_parser.specs.Descent.{Fails}
use Rattle.expr_parser.specs.Machine.{Open, begin, run, word}
use Rattle.expr_parser.proofs.descent.words_of_field.Given as goal

abbrev pub invariant-loop-alloc : goal.invariant-loop-alloc
invariant-loop-alloc l = shadow (Utf8 l.last)
    × ((K : Open) → run (begin K) l.fn.reader ≡ run (word K l.parts l.last) l.reader) × Fails is_part l.reader
    × (length l.reader < length l.fn.reader)

abbrev pub decreases-loop-alloc : goal.decreases-loop-alloc
decreases-loop-alloc l = length l.reader
