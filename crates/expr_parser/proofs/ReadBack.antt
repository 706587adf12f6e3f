-- A text spells one form at most, and is read as it. The canonical texts of two expressions differ.
use Rattle.std.proofs.Common.{◌≡◌, ℕ, ◌≤◌, Bool, true, false, cond, ◌&&◌, nat_le, ◌↔◌, List, [], ◌∷◌, map, length}
use Rattle.std.proofs.Common.{Option, Some, None, Result, Ok, Err, chars, refl, sym, ◌∙◌, ap, ap₂, arith}
use Rattle.std.proofs.lemmas.Bool.{and_parts, and_from, leb-true, le-leb, false≢true}
use Rattle.std.proofs.lemmas.List.{length-map}
use Rattle.std.proofs.lemmas.Slice.Eq.{bytes_eq-Decides}
use Rattle.std.proofs.lemmas.Str.{IsUtf8-from_is_utf8, is_utf8-from_IsUtf8}
use Rattle.std.proofs.lemmas.List.Elements.{All-from_recursion, recursion_from_All}
use Rattle.std.specs.List.{All, AllByRecursion, list_all}
use Rattle.std.specs.Result.{result_ok}
use Rattle.std.specs.Str.{is_utf8}
use Rattle.expr_parser.specs.Limits.{longest, most_exprs}
use Rattle.expr_parser.specs.Forms.{Form}
use Rattle.expr_parser.specs.Grammar.{Spells}
use Rattle.expr_parser.specs.Canonical.{canonical}
use Rattle.expr_parser.specs.Machine.{begin, none, run}
use Rattle.expr_parser.specs.Reading.{IsText, expr_in, IsExpr, spells_back, is_spelled, AreExprs, forms_in}
use Rattle.expr_parser.specs.inner.Reading.{IsSpelled}
use Rattle.expr_parser.proofs.Complete.{read-spelled}
use Rattle.expr_parser.proofs.Sound.{spelled-read}
use Rattle.expr_parser.proofs.Spelled.{canonical-shortest, IsUtf8-canonical}

-- ---- one form

pub one_form : (f g : Form) (text : List ℕ) → Spells f text → Spells g text → f ≡ g
one_form f g text spells_f spells_g =
    let read_f = read-spelled f text spells_f in let read_g = read-spelled g text spells_g in cc

where_true : {A : Type 0} (b : Bool) (o : Option A) (a : A) → cond b o None ≡ Some a → (b ≡ true) × (o ≡ Some a)
where_true true o a e = (refl, e)
where_true false o a e = absurd (cc)

read_ok : (r : Result Form (List ℕ)) (f : Form) → result_ok r ≡ Some f → r ≡ Ok f
read_ok (Ok g) f e = cc
read_ok (Err left) f e = absurd (cc)

text-expr_in : (f : Form) (text : List ℕ) → expr_in text ≡ Some f → IsText f text
unfolding expr_in
text-expr_in f text e =
    let reads = where_true (is_utf8 text && nat_le (length text) longest)
    (result_ok (run (begin none) (chars text))) f e in
    let tests = and_parts (is_utf8 text) (nat_le (length text) longest) reads.0 in
    record {
      utf8 = IsUtf8-from_is_utf8 text tests.0;
      short = leb-true (length text) longest tests.1;
      spells = spelled-read (chars text) f (read_ok (run (begin none) (chars text)) f reads.1);
    }

expr_in-of_text : (f : Form) (text : List ℕ) → IsText f text → expr_in text ≡ Some f
unfolding expr_in
expr_in-of_text f text is =
    rw (is_utf8-from_IsUtf8 text is.utf8, le-leb (length text) longest is.short)
    (ap result_ok (read-spelled f (chars text) is.spells))

-- a text reads as a form exactly where it is a text of it
pub expr_in-text : (f : Form) (text : List ℕ) → (expr_in text ≡ Some f) ↔ IsText f text
expr_in-text f text = (text-expr_in f text, expr_in-of_text f text)

-- a text of no form reads as none
pub expr_in-None : (text : List ℕ) → ((f : Form) → IsText f text → ⊥) → expr_in text ≡ None
expr_in-None text no_form = none (expr_in text) (λ f e. no_form f (text-expr_in f text e))
  where
    none : (o : Option Form) → ((f : Form) → o ≡ Some f → ⊥) → o ≡ None
    none None not_some = refl
    none (Some f) not_some = absurd (not_some f refl)

-- ---- canonical texts

-- what has a text has a canonical one, which reads as it
pub IsExpr-text : (f : Form) (text : List ℕ) → IsText f text → IsExpr f
IsExpr-text f text is =
    let canon = canonical-shortest f text is.utf8 is.spells in
    expr_in-of_text f (canonical f)
    (record {
      utf8 = IsUtf8-canonical f text is.utf8 is.spells;
      short = omega (arith, canon.1, is.short);
      spells =
          canon.0;
    })

pub IsExpr-read : (f : Form) (text : List ℕ) → expr_in text ≡ Some f → IsExpr f
IsExpr-read f text e = IsExpr-text f text (text-expr_in f text e)

-- two expressions with one canonical text are one
pub canonical-injective : (f g : Form) → IsExpr f → IsExpr g → canonical f ≡ canonical g → f ≡ g
canonical-injective f g is_f is_g same = some_inj f g (sym is_f ∙ ap expr_in same ∙ is_g)
  where
    some_inj : (f g : Form) → Some f ≡ Some g → f ≡ g
    some_inj f g e = cc

pub IsSpelled-canonical : (f : Form) → IsExpr f → IsSpelled (canonical f)
unfolding is_spelled
IsSpelled-canonical f is = ap (spells_back (canonical f)) is ∙ (bytes_eq-Decides (canonical f) (canonical f)).1 refl

-- what a canonical text reads as, and is the text of
pub spelled : (text : List ℕ) → IsSpelled text → (f : Form) × (expr_in text ≡ Some f) × (canonical f ≡ text)
unfolding is_spelled
spelled text is = back text (expr_in text) is
  where
    back : (text : List ℕ) (o : Option Form) → spells_back text o ≡ true → (f : Form) × (o ≡ Some f)
        × (canonical f ≡ text)
    back text None e = absurd (false≢true e)
    back text (Some f) e = (f, refl, (bytes_eq-Decides (canonical f) text).0 e)

pub back : (f : Form) (text : List ℕ) → expr_in text ≡ Some f → IsExpr f × (length (canonical f) ≤ length text)
back f text e =
    let is = text-expr_in f text e in
    (IsExpr-text f text is, (canonical-shortest f text is.utf8 is.spells).1)

-- ---- the texts of an index

forms_by : (fs : List Form) → AllByRecursion IsExpr fs → forms_in (map canonical fs) ≡ fs
forms_by [] are = refl
forms_by (f ∷ fs) are = rw are.0 (ap (λ (l : List Form). f ∷ l) (forms_by fs are.1))

spelled_by : (fs : List Form) → AllByRecursion IsExpr fs → list_all is_spelled (map canonical fs) ≡ true
spelled_by [] are = refl
spelled_by (f ∷ fs) are = and_from _ _ (IsSpelled-canonical f are.0) (spelled_by fs are.1)

pub texts_of_exprs : (fs : List Form) → All IsExpr fs → 1 ≤ length fs → length fs ≤ most_exprs
    → AreExprs (map canonical fs) × (forms_in (map canonical fs) ≡ fs)
texts_of_exprs fs all some few =
    let texts = map canonical fs in
    let are = recursion_from_All IsExpr fs all in
    let count : length texts ≡ length fs = length-map fs canonical in
    let counted = and_from (nat_le 1 (length texts)) (nat_le (length texts) most_exprs)
    (le-leb 1 (length texts) (omega (arith, count))) (le-leb (length texts) most_exprs (omega (arith, count))) in (
      and_from (nat_le 1 (length texts) && nat_le (length texts) most_exprs) (list_all is_spelled texts) counted
          (spelled_by fs are),
      forms_by fs are,
    )

exprs_by : (texts : List (List ℕ)) → list_all is_spelled texts ≡ true → AllByRecursion IsExpr (forms_in texts)
    × (map canonical (forms_in texts) ≡ texts)
exprs_by [] are = (tt, refl)
exprs_by (t ∷ ts) are =
    let both = and_parts (is_spelled t) (list_all is_spelled ts) are in
    let f = spelled t both.0 in
    let others = exprs_by ts both.1 in
    rw f.1 ((IsExpr-read f.0 t f.1, others.0), ap₂ (λ (x : List ℕ) (xs : List (List ℕ)). x ∷ xs) f.2 others.1)

pub exprs_of_texts : (texts : List (List ℕ)) → AreExprs texts → All IsExpr (forms_in texts)
    × (map canonical (forms_in texts) ≡ texts)
exprs_of_texts texts are =
    let counted = nat_le 1 (length texts) && nat_le (length texts) most_exprs in
    let all = exprs_by texts (and_parts counted (list_all is_spelled texts) are).1 in
    (All-from_recursion IsExpr (forms_in texts) all.0, all.1)
