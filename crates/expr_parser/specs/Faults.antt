-- What reading a text answers.
use Rattle.std.specs.Prelude.{◌≡◌, ℕ, ◌<◌, ◌≤◌, List, ◌++◌, length, Result, Ok, Err, encode_utf8_all}
use Rattle.std.specs.Str.{chars}
use Rattle.expr_parser.specs.declared.expr.Expr.{Expr}
use Rattle.expr_parser.specs.declared.fault.ParseFault.{ParseFault}
use Rattle.expr_parser.specs.declared.fault.ParseFault.TheVariants.{TooLong, At, Memory}
use Rattle.expr_parser.specs.Limits.{longest}
use Rattle.expr_parser.specs.Forms.{Form}
use Rattle.expr_parser.specs.FormOf.{form_of}
use Rattle.expr_parser.specs.Grammar.{Spells, Begins}

-- the text spells this form, and no other
pub record SpellsOnly (f : Form) (text : List ℕ) : Type 0 where
  pub spells : Spells f text
  pub only : (g : Form) → Spells g text → g ≡ f

-- the place is the length in bytes of the longest front of the text that begins some expression, of any length
pub record IsPlace (place : ℕ) (text : List ℕ) : Type 0 where
  pub front : List ℕ
  pub rest : List ℕ
  pub is : text ≡ front ++ rest
  pub begins : Begins front
  pub is_longest : (other left : List ℕ) → text ≡ other ++ left → Begins other → length other ≤ length front
  pub bytes : place ≡ length (encode_utf8_all front)

-- the text is not too long, spells nothing, and goes wrong at the place
pub record IsWrongAt (place : ℕ) (text : List ℕ) : Type 0 where
  pub short : length text ≤ longest
  pub spells_nothing : (f : Form) → Spells f (chars text) → ⊥
  pub goes_wrong : IsPlace place (chars text)

-- the length is tested first; then the text is read by the grammar
abbrev pub ReadsExpr : List ℕ → Result Expr ParseFault → Type 0
ReadsExpr text (Ok e) = (length text ≤ longest) × SpellsOnly (form_of e) (chars text)
ReadsExpr text (Err TooLong) = longest < length text
ReadsExpr text (Err (At place)) = IsWrongAt place text
ReadsExpr text (Err Memory) = Unit {0}
