-- The expression that a text reads as, and the texts that an index keeps of its expressions.
use Rattle.std.specs.Prelude.{◌≡◌, ◌↔◌, ℕ, ◌≤◌, Bool, false, ◌&&◌, nat_le, IsTrue, if◌then◌else◌, List, length, map}
use Rattle.std.specs.Prelude.{Option, Some, None}
use Rattle.std.specs.List.{All, filter_map, list_all}
use Rattle.std.specs.Result.{result_ok}
use Rattle.std.specs.Str.{IsUtf8, is_utf8, bytes_eq, chars}
use Rattle.expr_parser.specs.Limits.{longest, most_exprs}
use Rattle.expr_parser.specs.Forms.{Form}
use Rattle.expr_parser.specs.Grammar.{Spells}
use Rattle.expr_parser.specs.Canonical.{canonical}
use Rattle.expr_parser.specs.Machine.{begin, none, run}

-- a text of the form: UTF-8, within the limit, and spelling it by the grammar
pub record IsText (f : Form) (text : List ℕ) : Type 0 where
  pub utf8 : IsUtf8 text
  pub short : length text ≤ longest
  pub spells : Spells f (chars text)

-- the one form that the text is a text of, if there is one (`ExprsReadBack` below)
unfoldable pub expr_in : List ℕ → Option Form
expr_in text = if is_utf8 text && nat_le (length text) longest then result_ok (run (begin none) (chars text)) else None

-- the form of an expression that was read: its canonical text reads as it
abbrev pub IsExpr : Form → Type 0
IsExpr f = expr_in (canonical f) ≡ Some f

abbrev pub spells_back : List ℕ → Option Form → Bool
spells_back text None = false
spells_back text (Some f) = bytes_eq (canonical f) text

-- whether the text is the canonical text of an expression
unfoldable pub is_spelled : List ℕ → Bool
is_spelled text = spells_back text (expr_in text)

-- whether these are the canonical texts of one to eight expressions, as an index has them
abbrev pub are_exprs : List (List ℕ) → Bool
are_exprs texts = nat_le 1 (length texts) && nat_le (length texts) most_exprs && list_all is_spelled texts

abbrev pub AreExprs : List (List ℕ) → Type 0
AreExprs texts = IsTrue (are_exprs texts)

-- the expressions of these texts
abbrev pub forms_in : List (List ℕ) → List Form
forms_in texts = filter_map expr_in texts

-- ---- what holds of all expressions

pub record ExprsReadBack : Type 0 where
  -- a text reads as a form exactly where it is a text of it
  pub reads : (f : Form) (text : List ℕ) → (expr_in text ≡ Some f) ↔ IsText f text
  -- characters spell one form at most
  pub one : (f g : Form) (characters : List ℕ) → Spells f characters → Spells g characters → f ≡ g
  -- what is read is an expression, and its canonical text is no longer than what was read
  pub back : (f : Form) (text : List ℕ) → expr_in text ≡ Some f → IsExpr f × (length (canonical f) ≤ length text)
  -- two expressions with one canonical text are one
  pub apart : (f g : Form) → IsExpr f → IsExpr g → canonical f ≡ canonical g → f ≡ g

pub record IndexTextsReadBack : Type 0 where
  -- the canonical texts of one to eight expressions are texts as an index has them, and read as these
  pub texts : (fs : List Form) → All IsExpr fs → 1 ≤ length fs → length fs ≤ most_exprs → AreExprs (map canonical fs)
      × (forms_in (map canonical fs) ≡ fs)
  -- texts as an index has them read as expressions whose canonical texts they are
  pub forms : (texts : List (List ℕ)) → AreExprs texts → All IsExpr (forms_in texts)
      × (map canonical (forms_in texts) ≡ texts)
