-- Beside specs/Reading: words of private contracts and of proofs.
use Rattle.std.specs.Prelude.{ℕ, IsTrue, List}
use Rattle.expr_parser.specs.Reading.{is_spelled}

abbrev pub IsSpelled : List ℕ → Type 0
IsSpelled text = IsTrue (is_spelled text)
