-- The test tells equality of forms.
use Rattle.std.proofs.Common.{◌≡◌, ℕ, Bool, true, false, ◌↔◌, eqb, eqb-true, eq-eqb, IsTrue, List, [], ◌∷◌}
use Rattle.std.proofs.Common.{length, refl, sym, ◌∙◌, ap, arith}
use Rattle.std.proofs.lemmas.Bool.{and_parts, and_from, false≢true}
use mathlib.Core.Bool.{and-false}
use Rattle.std.proofs.lemmas.Slice.Eq.{bytes_eq-Decides, slice_eq-Decides}
use Rattle.expr_parser.specs.declared.expr.Expr.{Expr}
use Rattle.expr_parser.specs.Forms.{Form, Forms, field, lower, split_words, number, truth, combine, no_forms, form}
use Rattle.expr_parser.specs.FormOf.{form_of, forms_of_all}
use Rattle.expr_parser.specs.Same.{is_same, are_same, is_same_path}

path_is : (p q : List (List ℕ)) → is_same_path p q ≡ true → p ≡ q
path_is p q e = (slice_eq-Decides bytes_eq-Decides p q (is_same_path p q) refl).0 e

path_same : (p : List (List ℕ)) → is_same_path p p ≡ true
path_same p = (slice_eq-Decides bytes_eq-Decides p p (is_same_path p p) refl).1 refl

mutual
  same_is : (f g : Form) → is_same f g ≡ true → f ≡ g
  same_is (field p) (field q) e = ap field (path_is p q e)
  same_is (lower f) (lower g) e = ap lower (same_is f g e)
  same_is (split_words f) (split_words g) e = ap split_words (same_is f g e)
  same_is (number f m) (number g n) e =
      let both = and_parts (eqb m n) (is_same f g) e in
      let width : m ≡ n = eqb-true m n both.0 in
      let argument : f ≡ g = same_is f g both.1 in cc
  same_is (truth f) (truth g) e = ap truth (same_is f g e)
  same_is (combine fs) (combine gs) e = ap combine (are_same_is fs gs e)
  same_is f g e = absurd (false≢true e)

  are_same_is : (fs gs : Forms) → are_same fs gs ≡ true → fs ≡ gs
  are_same_is no_forms no_forms e = refl
  are_same_is (form f fs) (form g gs) e =
      let both = and_parts (is_same f g) (are_same fs gs) e in
      let first : f ≡ g = same_is f g both.0 in
      let others : fs ≡ gs = are_same_is fs gs both.1 in cc
  are_same_is fs gs e = absurd (false≢true e)

mutual
  same_as_itself : (f : Form) → is_same f f ≡ true
  same_as_itself (field p) = path_same p
  same_as_itself (lower f) = same_as_itself f
  same_as_itself (split_words f) = same_as_itself f
  same_as_itself (number f n) = and_from (eqb n n) (is_same f f) (eq-eqb n n refl) (same_as_itself f)
  same_as_itself (truth f) = same_as_itself f
  same_as_itself (combine fs) = same_as_themselves fs

  same_as_themselves : (fs : Forms) → are_same fs fs ≡ true
  same_as_themselves no_forms = refl
  same_as_themselves (form f fs) = and_from (is_same f f) (are_same fs fs) (same_as_itself f) (same_as_themselves fs)

pub same_tells : (f g : Form) (b : Bool) → b ≡ is_same f g → IsTrue b ↔ (f ≡ g)
same_tells f g b e =
    (λ yes. same_is f g (sym e ∙ yes), λ same. e ∙ (ap (is_same f) (sym same) ∙ same_as_itself f))

-- lists of two lengths differ
pub other_length : (xs ys : List Expr) → (length xs ≡ length ys → ⊥)
    → are_same (forms_of_all xs) (forms_of_all ys) ≡ false
other_length [] [] h = absurd (h refl)
other_length [] (y ∷ ys) h = refl
other_length (x ∷ xs) [] h = refl
other_length (x ∷ xs) (y ∷ ys) h =
    let rest = other_length xs ys (λ e. h (omega (arith, e))) in rw rest (and-false (is_same (form_of x) (form_of y)))
