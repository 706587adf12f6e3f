-- Which texts spell which expressions. A text is the list of its characters here.
use Rattle.std.specs.Prelude.{◌≡◌, ℕ, ◌≤◌, Bool, ◌||◌, ◌==◌, not, true, List, [], ◌∷◌, ◌++◌, length, map, codes}
use Rattle.std.specs.Prelude.{encode_utf8_all}
use Rattle.std.specs.List.{list_all, join_with_byte}
use Rattle.std.specs.Char.{is_whitespace}
use Rattle.std.specs.Fmt.{decimal}
use Rattle.expr_parser.specs.declared.reader.TheConstants.{LEAST_WIDTH, GREATEST_WIDTH}
use Rattle.expr_parser.specs.Forms.{Form, Forms, field, lower, split_words, number, truth, combine, no_forms, form}

-- white space, as `char::is_whitespace` says
unfoldable pub is_white : ℕ → Bool
is_white c = is_whitespace c

-- a character of a part: no white space, and none of `.` (46), `,` (44), `(` (40) and `)` (41)
unfoldable pub is_part : ℕ → Bool
is_part c = not (is_white c || c == 46 || c == 44 || c == 40 || c == 41)

abbrev pub IsWhite : List ℕ → Type 0
IsWhite text = list_all is_white text ≡ true

-- a part of a field: one or more of its characters
pub record IsPart (text : List ℕ) : Type 0 where
  pub some : 1 ≤ length text
  pub allowed : list_all is_part text ≡ true

-- one or more parts
abbrev pub ArePartsOfField : List (List ℕ) → Type 0
ArePartsOfField [] = ⊥
ArePartsOfField (part ∷ []) = IsPart part
ArePartsOfField (part ∷ next ∷ parts) = IsPart part × ArePartsOfField (next ∷ parts)

-- a field: its parts, kept as UTF-8, with a dot between each two
pub record SpellsField (parts : List (List ℕ)) (text : List ℕ) : Type 0 where
  pub names : List (List ℕ)
  pub kept : parts ≡ map encode_utf8_all names
  pub are_parts : ArePartsOfField names
  pub is : text ≡ join_with_byte 46 names

-- a text of P, with white space allowed before it and after it
pub record Around (P : List ℕ → Type 0) (text : List ℕ) : Type 0 where
  pub before : List ℕ
  pub core : List ℕ
  pub behind : List ℕ
  pub is : text ≡ before ++ (core ++ behind)
  pub white_before : IsWhite before
  pub white_behind : IsWhite behind
  pub holds : P core

-- a word, and a text of P in brackets, with white space allowed before the first bracket
pub record Call (word : List ℕ) (P : List ℕ → Type 0) (text : List ℕ) : Type 0 where
  pub gap : List ℕ
  pub inside : List ℕ
  pub is : text ≡ word ++ (gap ++ 40 ∷ (inside ++ 41 ∷ []))
  pub white : IsWhite gap
  pub holds : P inside

-- a text of P, a comma and a text of Q
pub record Pair (P Q : List ℕ → Type 0) (text : List ℕ) : Type 0 where
  pub first : List ℕ
  pub second : List ℕ
  pub is : text ≡ first ++ 44 ∷ second
  pub first_holds : P first
  pub second_holds : Q second

-- a width: from 1 to 128, in decimal without a leading zero
pub record SpellsWidth (width : ℕ) (text : List ℕ) : Type 0 where
  pub least : LEAST_WIDTH ≤ width
  pub greatest : width ≤ GREATEST_WIDTH
  pub is : text ≡ decimal width

-- the grammar, by cases on the form
abbrev mutual
  pub Spells : Form → List ℕ → Type 0
  Spells (field parts) = Around (SpellsField parts)
  Spells (lower f) = Around (Call (codes "lower") (Spells f))
  Spells (split_words f) = Around (Call (codes "split_words") (Spells f))
  Spells (number f width) = Around (Call (codes "number") (Pair (Spells f) (Around (SpellsWidth width))))
  Spells (truth f) = Around (Call (codes "bool") (Spells f))
  Spells (combine fs) = Around (Call (codes "combine") (SpellsEach fs))

  -- one or more expressions, with a comma between each two
  pub SpellsEach : Forms → List ℕ → Type 0
  SpellsEach no_forms = λ _. ⊥
  SpellsEach (form f no_forms) = Spells f
  SpellsEach (form f (form g fs)) = Pair (Spells f) (SpellsEach (form g fs))

-- the text begins some text of an expression
pub record Begins (text : List ℕ) : Type 0 where
  pub form : Form
  pub rest : List ℕ
  pub spells : Spells form (text ++ rest)
