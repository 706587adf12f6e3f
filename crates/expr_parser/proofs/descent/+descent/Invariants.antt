use Rattle.std.proofs.Common.{◌≡◌, ◌+◌, ◌*◌, ◌≤◌, length, map}
use Rattle.expr_parser.specs.declared.transform.Transform.TheVariants.{Combine}
use Rattle.expr_parser.specs.FormOf.{form_of}
use Rattle.expr_parser.specs.Grammar.{is_white}
use Rattle.expr_parser.specs.Descent.{Fails}
use Rattle.expr_parser.specs.Machine.{Open, done, more, run, within}
use Rattle.expr_parser.proofs.descent.+descent.Given as goal

abbrev pub decreases-applied : goal.decreases-applied
decreases-applied l = 3 * length l.reader.now + 2

abbrev pub decreases-arguments : goal.decreases-arguments
decreases-arguments l = 3 * length l.reader.now + 1

abbrev pub decreases-call : goal.decreases-call
decreases-call l = 3 * length l.reader.now + 1

abbrev pub decreases-expression : goal.decreases-expression
decreases-expression l = 3 * length l.reader.now

abbrev pub invariant-arguments-loop-alloc : goal.invariant-arguments-loop-alloc
invariant-arguments-loop-alloc l =
    ((K : Open) → run (done (within Combine K) (form_of l.fn.first)) l.fn.reader
    ≡ run (more K (map form_of l.all.items)) l.reader) × Fails is_white l.reader
    × (length l.reader ≤ length l.fn.reader)

abbrev pub decreases-arguments-loop-alloc : goal.decreases-arguments-loop-alloc
decreases-arguments-loop-alloc l = length l.reader
