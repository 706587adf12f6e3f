-- An expression as a plain tree.
use Rattle.std.specs.Prelude.{ℕ, List, [], ◌∷◌}

mutual
  -- a field by its parts, each as UTF-8 bytes; or a transform of its argument, `number` with a width
  pub data Form : Type 0 where
    field : List (List ℕ) → Form
    lower : Form → Form
    split_words : Form → Form
    number : Form → ℕ → Form
    truth : Form → Form
    combine : Forms → Form

  -- the arguments of `combine`, in order
  pub data Forms : Type 0 where
    no_forms : Forms
    form : Form → Forms → Forms

-- the forms of a list
abbrev pub forms_of : List Form → Forms
forms_of [] = no_forms
forms_of (f ∷ fs) = form f (forms_of fs)
