-- The expressions of an index, as contracts see them.
use Rattle.std.specs.Prelude.{◌≡◌, ℕ, ◌≤◌, Bool, true, false, List, [], ◌∷◌, length, map, Option, Some, None, refl}
use Rattle.std.proofs.Common.{◌∙◌, ap}
use Rattle.std.proofs.lemmas.Bool.{and_parts}
use Rattle.std.proofs.lemmas.List.Elements.{All-nil, All-cons}
use Rattle.std.specs.Coded.{Coded, coded_ℕ, coded_list}
use Rattle.std.specs.List.{All, list_all}
use base.Stored.{coded_via}
use mathlib.Core.Bool.{Bool-set}
use mathlib.Core.HLevel.{Σ_prop_path}
use Rattle.expr_parser.specs.Canonical.{canonical}
use Rattle.expr_parser.specs.Forms.{Form}
use Rattle.expr_parser.specs.Limits.{most_exprs}
use Rattle.expr_parser.specs.Reading.{AreExprs, IsExpr, are_exprs, expr_in}
use Rattle.expr_parser.specs.Same.{is_same}
use Rattle.expr_parser.proofs.ReadBack.{texts_of_exprs}
use Rattle.expr_parser.proofs.SameForms.{same_tells}

-- the canonical texts of one to eight expressions
pub record IndexTexts : Type 0 where
  pub texts : List (List ℕ)
  pub spelled : AreExprs texts

-- whether the form is what its canonical text reads as
abbrev pub is_read_as : Form → Option Form → Bool
is_read_as f None = false
is_read_as f (Some g) = is_same g f

abbrev pub is_read : Form → Bool
is_read f = is_read_as f (expr_in (canonical f))

found : (f : Form) (o : Option Form) → expr_in (canonical f) ≡ o → is_read_as f o ≡ true → IsExpr f
found f None e h = absurd (cc)
found f (Some g) e h = e ∙ ap Some ((same_tells g f (is_same g f) refl).0 h)

pub all_read : (fs : List Form) → list_all is_read fs ≡ true → All IsExpr fs
all_read [] h = All-nil IsExpr
all_read (f ∷ fs) h =
    let both = and_parts (is_read f) (list_all is_read fs) h in
    All-cons IsExpr f fs (found f (expr_in (canonical f)) refl both.0) (all_read fs both.1)

-- the texts of some expressions
abbrev pub texts_of : (forms : List Form) → list_all is_read forms ≡ true → 1 ≤ length forms
    → length forms ≤ most_exprs → IndexTexts
texts_of forms read some few =
    record { texts = map canonical forms; spelled = (texts_of_exprs forms (all_read forms read) some few).0 }

-- they are stored as their texts
pub same_texts : (x y : IndexTexts) → x.texts ≡ y.texts → x ≡ y
same_texts x y e =
    let both : ◌≡◌ {A = (ts : List (List ℕ)) × AreExprs ts} (x.texts, x.spelled) (y.texts, y.spelled) =
    Σ_prop_path (λ ts p q. Bool-set (are_exprs ts) true p q) e in
    λ i. record { texts = (both i).0; spelled = (both i).1 }

abbrev pub texts_code : Coded IndexTexts
texts_code = coded_via (coded_list (coded_list coded_ℕ)) (λ x. x.texts) same_texts
