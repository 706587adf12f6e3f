use Rattle.std.proofs.Common.{◌≡◌, ◌≤◌, length}
use Rattle.expr_parser.specs.declared.transform.Transform.TheVariants.{Number}
use Rattle.expr_parser.specs.Forms.{Form}
use Rattle.expr_parser.specs.Grammar.{is_white}
use Rattle.expr_parser.specs.Descent.{Fails}
use Rattle.expr_parser.specs.Machine.{Open, done, run, within}
use Rattle.expr_parser.proofs.Steps.{counted}
use Rattle.expr_parser.proofs.descent.width_behind.Given as goal

abbrev pub invariant-loop-longer : goal.invariant-loop-longer
invariant-loop-longer l = ((f : Form) (K : Open)
    → run (done (within Number K) f) l.fn.reader ≡ run (counted K f l.width) l.reader) × (l.width ≤ 128)
    × (l.width ≡ 0 → Fails is_white l.reader) × (length l.reader ≤ length l.fn.reader)

abbrev pub decreases-loop-longer : goal.decreases-loop-longer
decreases-loop-longer l = length l.reader
