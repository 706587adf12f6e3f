-- Each test of places says what its relation says.
use Rattle.std.proofs.Common.{◌≡◌, ◌↔◌, ℕ, inl, inr, true, false, eqb, ltb, List, length, Option, refl}
use Rattle.std.proofs.Common.{sym, ◌∙◌, ap, subst, arith, eqb-true, eq-eqb, leb-true, le-leb, ltb-true, lt-ltb}
use Rattle.std.specs.Prelude.{nat_eq}
use Rattle.std.proofs.lemmas.Bool.{cases_lt, or_cases, or_left, or_right}
use Rattle.std.specs.Option.{option_eq}
use Rattle.std.specs.Cmp.Lexicographic.{pointwise, nat_list_eq_equiv, options_equiv}
use Rattle.u1_base.specs.Places.{Place}
use Rattle.u1_base.proofs.Booleans.{both, first, second, none_true, not_both}
use Rattle.u1_base.proofs.SamePlaces.{same_trans, same_place_is, is_same_place}
use Rattle.translog.specs.declared.entry.Entry.{Entry}
use Rattle.translog.specs.declared.check.Check.{Check}
use Rattle.translog.specs.declared.check.Check.TheVariants.{Fits, NotReached, OtherId}
use Rattle.translog.specs.Entries.{trans_at}
use Rattle.translog.specs.Log.{IsEnd, FitsLog, end_of, fits_log}
use Rattle.translog.specs.Checks.{Checks, is_fits}
use Rattle.translog.specs.Source.{GoesBack, GoesOn, passes}

-- two parts are a place
of_parts : (p q : Place) → p.generation ≡ q.generation → p.trans ≡ q.trans → p ≡ q
of_parts p q g t = λ i. record { generation = g i; trans = t i }

-- ---- the end

pub ends : (es : List Entry) (p : Place) → IsEnd es p ↔ (p ≡ end_of es)
ends es p = (
  λ is. of_parts p (end_of es) is.generation is.trans,
  λ same. record { generation = ap (λ (q : Place). q.generation) same; trans = ap (λ (q : Place). q.trans) same },
)

pub end_fits : (es : List Entry) → FitsLog es (end_of es)
end_fits es = inr (omega arith, refl)

-- ---- the log check

trans_same : (a b : Option (List ℕ)) → a ≡ b → option_eq (pointwise nat_eq) a b ≡ true
trans_same a b same =
    subst (λ (o : Option (List ℕ)). option_eq (pointwise nat_eq) a o ≡ true) same
    ((options_equiv nat_list_eq_equiv).refl a)

fits_true : (es : List Entry) (p : Place) → FitsLog es p → fits_log es p ≡ true
fits_true es p (inl start) = or_left (eqb p.generation 0) _ (eq-eqb p.generation 0 start)
fits_true es p (inr at) =
    or_right (eqb p.generation 0) _
    (both _ _ (le-leb p.generation (length es) at.0) (trans_same (trans_at es p.generation) p.trans at.1))

true_fits : (es : List Entry) (p : Place) → fits_log es p ≡ true → FitsLog es p
true_fits es p h =
    elim (or_cases (eqb p.generation 0) _ h) [
      | inl start ↦ inl (eqb-true p.generation 0 start)
      | inr at ↦ inr (
        leb-true p.generation (length es) (first _ _ at),
        same_trans (trans_at es p.generation) p.trans (second _ _ at),
      )
    ]

pub fits : (es : List Entry) (p : Place) → FitsLog es p ↔ (fits_log es p ≡ true)
fits es p = (fits_true es p, true_fits es p)

not_fits : (es : List Entry) (p : Place) → (FitsLog es p → ⊥) → false ≡ fits_log es p
not_fits es p h = sym (none_true (fits_log es p) (λ is. h (true_fits es p is)))

pub answered : (es : List Entry) (p : Place) (answer : Check) → Checks es p answer → is_fits answer ≡ fits_log es p
answered es p Fits is = sym (fits_true es p is)
answered es p (NotReached n) is = not_fits es p past
  where
    past : FitsLog es p → ⊥
    past (inl start) = omega (arith, is.1, start)
    past (inr at) = omega (arith, is.0, is.1, at.0)
answered es p (OtherId found) is = not_fits es p other
  where
    other : FitsLog es p → ⊥
    other (inl start) = omega (arith, is.0, start)
    other (inr at) = is.3 (sym at.1 ∙ is.2)

-- ---- the source check

pub goes_on : (kept to : Place) → GoesOn kept to ↔ (passes kept to ≡ true)
goes_on kept to = (on_true, true_on)
  where
    on_true : GoesOn kept to → passes kept to ≡ true
    on_true (inl later) = or_left (ltb kept.generation to.generation) _ (lt-ltb kept.generation to.generation later)
    on_true (inr here) =
        or_right (ltb kept.generation to.generation) _ (is_same_place to kept (of_parts to kept here.0 here.1))

    true_on : passes kept to ≡ true → GoesOn kept to
    true_on h =
        elim (or_cases (ltb kept.generation to.generation) _ h) [
          | inl later ↦ inl (ltb-true kept.generation to.generation later)
          | inr here ↦
              let same : to ≡ kept = same_place_is to kept here in
              inr (ap (λ (q : Place). q.generation) same, ap (λ (q : Place). q.trans) same)
        ]

-- a place does not go on and back
apart : (kept to : Place) → GoesOn kept to → GoesBack kept to → ⊥
apart kept to (inl later) (inl before) = omega (arith, later, before)
apart kept to (inl later) (inr other) = omega (arith, later, other.0)
apart kept to (inr here) (inl before) = omega (arith, here.0, before)
apart kept to (inr here) (inr other) = other.1 here.1

pub goes_back : (kept to : Place) → GoesBack kept to ↔ (passes kept to ≡ false)
goes_back kept to = (back_false, false_back)
  where
    back_false : GoesBack kept to → passes kept to ≡ false
    back_false back = none_true (passes kept to) (λ h. apart kept to ((goes_on kept to).1 h) back)

    false_back : passes kept to ≡ false → GoesBack kept to
    false_back h =
        elim (cases_lt kept.generation to.generation) [
          | inl later ↦ absurd (not_both (passes kept to) ((goes_on kept to).0 (inl later)) h)
          | inr low ↦ elim (cases_lt to.generation kept.generation) [
            | inl before ↦ inl before
            | inr high ↦ inr (
              omega (arith, low, high),
              λ same. absurd (not_both (passes kept to) ((goes_on kept to).0 (inr (omega (arith, low, high), same))) h),
            )
          ]
        ]
