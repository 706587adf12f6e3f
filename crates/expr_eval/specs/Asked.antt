-- The names of the fields at the root of a content tree that expressions ask for.
use Rattle.std.specs.Prelude.{ℕ, List, [], ◌∷◌, ◌++◌, flat_map}
use Rattle.expr_parser.specs.Forms.{Form, Forms, field, lower, split_words, number, truth, combine, no_forms, form}

abbrev pub first_of_path : List (List ℕ) → List (List ℕ)
first_of_path [] = []
first_of_path (name ∷ parts) = name ∷ []

abbrev mutual
  pub names_asked : Form → List (List ℕ)
  names_asked (field parts) = first_of_path parts
  names_asked (lower f) = names_asked f
  names_asked (split_words f) = names_asked f
  names_asked (number f width) = names_asked f
  names_asked (truth f) = names_asked f
  names_asked (combine fs) = names_asked_by_each fs

  pub names_asked_by_each : Forms → List (List ℕ)
  names_asked_by_each no_forms = []
  names_asked_by_each (form f fs) = names_asked f ++ names_asked_by_each fs

-- by all expressions of a list
abbrev pub all_names_asked : List Form → List (List ℕ)
all_names_asked forms = flat_map names_asked forms
