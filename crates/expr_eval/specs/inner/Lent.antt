-- Borrowed texts, and keys that begin with some texts.
use Rattle.std.specs.Prelude.{ℕ, List, ◌++◌, map}
use Rattle.std.specs.Borrow.{Bor}
use Rattle.expr_eval.specs.Keys.{tuples}

-- the texts that the references lead to
abbrev pub lent : List (Bor (List ℕ)) → List (List ℕ)
lent texts = map (λ text. text.now) texts

-- all lists with one text of each list, each after the first texts of a key
abbrev pub behind : List (List ℕ) → List (List (List ℕ)) → List (List (List ℕ))
behind front lists = map (λ tuple. front ++ tuple) (tuples lists)
