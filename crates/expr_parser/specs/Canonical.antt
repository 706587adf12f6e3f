-- The one spelling that the program writes: without white space, as UTF-8 bytes.
use Rattle.std.specs.Prelude.{ℕ, ◌≤◌, List, [], ◌++◌, codes, length}
use Rattle.std.specs.Str.{IsUtf8, chars}
use Rattle.expr_parser.specs.Grammar.{Spells}
use Rattle.std.specs.List.{join_with_byte}
use Rattle.std.specs.Fmt.{decimal}
use Rattle.expr_parser.specs.Forms.{Form, Forms, field, lower, split_words, number, truth, combine, no_forms, form}

abbrev mutual
  pub canonical : Form → List ℕ
  canonical (field parts) = join_with_byte 46 parts
  canonical (lower f) = codes "lower(" ++ (canonical f ++ codes ")")
  canonical (split_words f) = codes "split_words(" ++ (canonical f ++ codes ")")
  canonical (number f width) = codes "number(" ++ (canonical f ++ (codes "," ++ (decimal width ++ codes ")")))
  canonical (truth f) = codes "bool(" ++ (canonical f ++ codes ")")
  canonical (combine fs) = codes "combine(" ++ (canonical_each fs ++ codes ")")

  -- with a comma between each two
  pub canonical_each : Forms → List ℕ
  canonical_each no_forms = []
  canonical_each (form f no_forms) = canonical f
  canonical_each (form f (form g fs)) = canonical f ++ (codes "," ++ canonical_each (form g fs))

-- where some text spells the form, this spelling does too, and has no more bytes
abbrev pub IsShortest : Form → List ℕ → Type 0
IsShortest f spelling = (text : List ℕ) → IsUtf8 text → Spells f (chars text) → Spells f (chars spelling)
    × (length spelling ≤ length text)
