-- Membership in a list, and how a test of a list, a filter and a map read it.
use Rattle.std.specs.Prelude.{◌≡◌, Bool, true, false, cond, ◌&&◌, ◌||◌, ◌⊎◌, List, [], ◌∷◌, ◌++◌, filter, map, refl}
use Rattle.std.specs.List.{list_any}
use Rattle.std.proofs.Common.{sym, ◌∙◌, ap, subst, inl, inr, true≢false}
use Rattle.u1_base.proofs.Booleans.{none_true, not_both}
use Rattle.conflicts.specs.Lists.{In}

module _ {A : Type 0} where
  pub In-left : (x : A) (xs ys : List A) → In x xs → In x (xs ++ ys)
  In-left x [] ys h = absurd h
  In-left x (z ∷ xs) ys (inl e) = inl e
  In-left x (z ∷ xs) ys (inr h) = inr (In-left x xs ys h)

  pub In-right : (x : A) (xs ys : List A) → In x ys → In x (xs ++ ys)
  In-right x [] ys h = h
  In-right x (z ∷ xs) ys h = inr (In-right x xs ys h)

  pub In-last : (x : A) (xs : List A) → In x (xs ++ x ∷ [])
  In-last x xs = In-right x xs (x ∷ []) (inl refl)

  pub In-either : (x : A) (xs ys : List A) → In x (xs ++ ys) → In x xs ⊎ In x ys
  In-either x [] ys h = inr h
  In-either x (z ∷ xs) ys (inl e) = inl (inl e)
  In-either x (z ∷ xs) ys (inr h) = elim (In-either x xs ys h) [ inl k ↦ inl (inr k) | inr k ↦ inr k ]

  pub In-push : (x y : A) (xs : List A) → In x (xs ++ y ∷ []) → In x xs ⊎ (x ≡ y)
  In-push x y xs h =
      elim (In-either x xs (y ∷ []) h) [ inl k ↦ inl k | inr k ↦ elim k [ inl e ↦ inr e | inr z ↦ absurd z ] ]

  module _ (p : A → Bool) where
    -- a test that some value passes finds one that passes it
    pub found : (xs : List A) → list_any p xs ≡ true → (x : A) × In x xs × (p x ≡ true)
    found [] e = absurd (true≢false (sym e))
    found (x ∷ xs) e =
        elim (p x) as (λ b. p x ≡ b → (b || list_any p xs) ≡ true → (y : A) × In y (x ∷ xs) × (p y ≡ true)) [
          | true ↦ λ px _. (x, inl refl, px)
          | false ↦ λ _ r. let f = found xs r in (f.0, inr f.1, f.2)
        ] refl e

    pub finds : (x : A) (xs : List A) → In x xs → p x ≡ true → list_any p xs ≡ true
    finds x [] h e = absurd h
    finds x (y ∷ ys) (inl q) e = ap (λ b. b || list_any p ys) (ap p (sym q) ∙ e)
    finds x (y ∷ ys) (inr h) e =
        elim (p y) as (λ b. (b || list_any p ys) ≡ true) [ true ↦ refl | false ↦ finds x ys h e ]

    -- where none passes, each value fails
    pub none_passes : (x : A) (xs : List A) → list_any p xs ≡ false → In x xs → p x ≡ false
    none_passes x xs none h = none_true (p x) (λ e. not_both _ (finds x xs h e) none)

    pub passes_none : (xs : List A) → ((x : A) → In x xs → p x ≡ false) → list_any p xs ≡ false
    passes_none xs h = none_true _ (λ e. let f = found xs e in not_both _ f.2 (h f.0 f.1))

    pub In-filter : (x : A) (xs : List A) → In x xs → p x ≡ true → In x (filter p xs)
    In-filter x [] h e = absurd h
    In-filter x (y ∷ ys) (inl q) e =
        subst (λ b. In x (cond b (y ∷ filter p ys) (filter p ys))) (sym e ∙ ap p q) (inl q)
    In-filter x (y ∷ ys) (inr h) e =
        elim (p y) as (λ b. In x (cond b (y ∷ filter p ys) (filter p ys))) [
          | true ↦ inr (In-filter x ys h e)
          | false ↦ In-filter x ys h e
        ]

    pub from_filter : (x : A) (xs : List A) → In x (filter p xs) → In x xs × (p x ≡ true)
    from_filter x [] h = absurd h
    from_filter x (y ∷ ys) h =
        elim (p y) as (λ b. p y ≡ b → In x (cond b (y ∷ filter p ys) (filter p ys)) → In x (y ∷ ys) × (p x ≡ true)) [
          | true ↦ λ py k. elim k [
            | inl q ↦ (inl q, ap p q ∙ py)
            | inr k ↦ let r = from_filter x ys k
                in (inr r.0, r.1)
          ]
          | false ↦ λ _ k. let r = from_filter x ys k in (inr r.0, r.1)
        ] refl h

    -- a filter that every value passes, and one that none passes
    pub filter_whole : (xs : List A) → ((x : A) → In x xs → p x ≡ true) → filter p xs ≡ xs
    filter_whole [] h = refl
    filter_whole (x ∷ xs) h =
        ap (λ b. cond b (x ∷ filter p xs) (filter p xs)) (h x (inl refl))
        ∙ ap (λ r. x ∷ r) (filter_whole xs (λ y i. h y (inr i)))

    pub filter_nothing : (xs : List A) → ((x : A) → In x xs → p x ≡ false) → filter p xs ≡ []
    filter_nothing [] h = refl
    filter_nothing (x ∷ xs) h =
        ap (λ b. cond b (x ∷ filter p xs) (filter p xs)) (h x (inl refl)) ∙ filter_nothing xs (λ y i. h y (inr i))

  pub filter-filter : (p q : A → Bool) (xs : List A) → filter p (filter q xs) ≡ filter (λ x. q x && p x) xs
  filter-filter p q [] = refl
  filter-filter p q (x ∷ xs) =
      elim (q x) as (λ b. filter p (cond b (x ∷ filter q xs) (filter q xs))
      ≡ cond (b && p x) (x ∷ filter (λ x. q x && p x) xs) (filter (λ x. q x && p x) xs)) [
        | true ↦ ap (λ r. cond (p x) (x ∷ r) r) (filter-filter p q xs)
        | false ↦ filter-filter p q xs
      ]

pub In-map : {A B : Type 0} (f : A → B) (x : A) (xs : List A) → In x xs → In (f x) (map f xs)
In-map f x [] h = absurd h
In-map f x (y ∷ ys) (inl e) = inl (ap f e)
In-map f x (y ∷ ys) (inr h) = inr (In-map f x ys h)

pub from_map : {A B : Type 0} (f : A → B) (y : B) (xs : List A) → In y (map f xs) → (x : A) × In x xs × (y ≡ f x)
from_map f y [] h = absurd h
from_map f y (x ∷ xs) (inl e) = (x, inl refl, e)
from_map f y (x ∷ xs) (inr h) = let r = from_map f y xs h in (r.0, inr r.1, r.2)
