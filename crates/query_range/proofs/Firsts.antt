-- Lists of which each item is kept once, at its first place.
use Rattle.std.proofs.Common.{◌≡◌, Bool, true, false, cond, not, ◌||◌, List, [], ◌∷◌, ◌++◌, refl, ◌∙◌, ap, Ordering}
use Rattle.std.proofs.lemmas.List.{append-nil}
use Rattle.std.proofs.lemmas.List.Elements.{filter-append}
use Rattle.std.specs.List.{filter, list_any}
use Rattle.std.specs.Ordering.{eq_by_cmp}
use Rattle.query_range.specs.Answers.{firsts}

module _ {X : Type 0} (R : X → X → Ordering) where
  -- one item more is kept, unless it ties with an earlier one
  pub firsts-push : (xs : List X) (z : X)
      → firsts R (xs ++ z ∷ []) ≡ cond (list_any (eq_by_cmp R z) xs) (firsts R xs) (firsts R xs ++ z ∷ [])
  firsts-push [] z = refl
  firsts-push (x ∷ xs) z =
      ap (λ (l : List X). x ∷ filter (λ y. not (eq_by_cmp R y x)) l) (firsts-push xs z)
      ∙ by (list_any (eq_by_cmp R z) xs)
    where
      by : (b : Bool) → x ∷ filter (λ y. not (eq_by_cmp R y x)) (cond b (firsts R xs) (firsts R xs ++ z ∷ []))
          ≡ cond (eq_by_cmp R z x || b) (x ∷ filter (λ y. not (eq_by_cmp R y x)) (firsts R xs))
          (x ∷ (filter (λ y. not (eq_by_cmp R y x)) (firsts R xs) ++ z ∷ []))
      by true = elim (eq_by_cmp R z x) as
          (λ (t : Bool). x ∷ filter (λ y. not (eq_by_cmp R y x)) (firsts R xs)
          ≡ cond (t || true) (x ∷ filter (λ y. not (eq_by_cmp R y x)) (firsts R xs))
          (x ∷ (filter (λ y. not (eq_by_cmp R y x)) (firsts R xs) ++ z ∷ []))) [ true ↦ refl | false ↦ refl ]
      by false =
          ap (λ (l : List X). x ∷ l) (filter-append (λ y. not (eq_by_cmp R y x)) (firsts R xs) (z ∷ []))
          ∙ elim (eq_by_cmp R z x) as
          (λ (t : Bool). x ∷ (filter (λ y. not (eq_by_cmp R y x)) (firsts R xs) ++ cond (not t) (z ∷ []) [])
          ≡ cond (t || false) (x ∷ filter (λ y. not (eq_by_cmp R y x)) (firsts R xs))
          (x ∷ (filter (λ y. not (eq_by_cmp R y x)) (firsts R xs) ++ z ∷ []))) [
            | true ↦ ap (λ (l : List X). x ∷ l) (append-nil (filter (λ y. not (eq_by_cmp R y x)) (firsts R xs)))
            | false ↦ refl
          ]
