-- Beside specs/Descent: words of private contracts and of proofs.
use Rattle.std.specs.Prelude.{◌≡◌, ℕ, List, Result, Ok, Err}
use Rattle.expr_parser.specs.declared.descent.Stop.{Stop}
use Rattle.expr_parser.specs.declared.descent.Stop.TheVariants.{Here, Memory}
use Rattle.expr_parser.specs.declared.expr.Expr.{Expr}
use Rattle.expr_parser.specs.FormOf.{form_of}
use Rattle.expr_parser.specs.Machine.{none, begin, run}

-- a reading of a whole text: the one form of a run from the beginning, or what a run leaves
abbrev pub Parses : List ℕ → List ℕ → Result Expr Stop → Type 0
Parses old new (Ok e) = run (begin none) old ≡ Ok (form_of e)
Parses old new (Err Here) = run (begin none) old ≡ Err new
Parses old new (Err Memory) = Unit {0}
