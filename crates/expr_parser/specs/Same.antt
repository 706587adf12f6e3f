-- Words of private clauses: equality of forms, as a test.
use Rattle.std.specs.Prelude.{ℕ, ◌==◌, Bool, true, false, ◌&&◌, List}
use Rattle.std.specs.Str.{bytes_eq}
use Rattle.std.specs.Cmp.Lexicographic.{pointwise}
use Rattle.expr_parser.specs.Forms.{Form, Forms, field, lower, split_words, number, truth, combine, no_forms, form}

abbrev pub is_same_path : List (List ℕ) → List (List ℕ) → Bool
is_same_path = pointwise bytes_eq

abbrev mutual
  pub is_same : Form → Form → Bool
  is_same (field p) (field q) = is_same_path p q
  is_same (lower f) (lower g) = is_same f g
  is_same (split_words f) (split_words g) = is_same f g
  is_same (number f m) (number g n) = m == n && is_same f g
  is_same (truth f) (truth g) = is_same f g
  is_same (combine fs) (combine gs) = are_same fs gs
  is_same _ _ = false

  pub are_same : Forms → Forms → Bool
  are_same no_forms no_forms = true
  are_same (form f fs) (form g gs) = is_same f g && are_same fs gs
  are_same _ _ = false
