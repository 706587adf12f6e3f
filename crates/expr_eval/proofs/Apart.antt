-- No key stands twice.
use Rattle.std.proofs.Common.{◌≡◌, ◌≢◌, ℕ, zero, suc, ◌<◌, Bool, true, false, not, cond, List, [], ◌∷◌, ◌++◌, length}
use Rattle.std.proofs.Common.{map, take, get_or, refl, sym, subst, ◌∙◌, ◌⊎◌, inl, inr, arith}
use Rattle.std.proofs.lemmas.Bool.{true≢false}
use Rattle.std.proofs.lemmas.Slice.Eq.{bytes_eq-Decides}
use Rattle.std.specs.List.{AllPairs, filter, flat_map}
use Rattle.std.specs.Str.{bytes_eq}
use Rattle.content.specs.Tree.{Tree}
use Rattle.expr_parser.specs.Forms.{Form}
use Rattle.expr_eval.specs.Keys.{key_texts, keys_of, most, tuples}
use Rattle.expr_eval.specs.Values.{texts_of}
use Rattle.expr_eval.specs.Words.{distinct}

-- the list has the item
abbrev In : {X : Type 0} → X → List X → Type 0
In x [] = ⊥
In x (y ∷ ys) = (x ≡ y) ⊎ In x ys

-- no item stands twice
abbrev pub Apart : {X : Type 0} → List X → Type 0
Apart [] = Unit {0}
Apart (x ∷ xs) = (In x xs → ⊥) × Apart xs

-- a filter and a front leave no doubles where there were none
in_cond : {X : Type 0} (b : Bool) (y x : X) (xs more : List X) → (In y xs → In y more) → In y (cond b (x ∷ xs) xs)
    → In y (x ∷ more)
in_cond true y x xs more f h = elim h [
  | inl e ↦ inl e
  | inr rest ↦ inr (f rest)
]
in_cond false y x xs more f h = inr (f h)

in_filter : {X : Type 0} (p : X → Bool) (y : X) (xs : List X) → In y (filter p xs) → In y xs
in_filter p y [] h = h
in_filter p y (x ∷ xs) h = in_cond (p x) y x (filter p xs) xs (in_filter p y xs) h

apart_cond : {X : Type 0} (b : Bool) (x : X) (xs : List X) → (In x xs → ⊥) → Apart xs → Apart (cond b (x ∷ xs) xs)
apart_cond true x xs none apart = (none, apart)
apart_cond false x xs none apart = apart

apart_filter : {X : Type 0} (p : X → Bool) (xs : List X) → Apart xs → Apart (filter p xs)
apart_filter p [] apart = apart
apart_filter p (x ∷ xs) apart =
    apart_cond (p x) x (filter p xs) (λ h. apart.0 (in_filter p x xs h)) (apart_filter p xs apart.1)

in_take : {X : Type 0} (n : ℕ) (y : X) (xs : List X) → In y (take n xs) → In y xs
in_take zero y xs h = absurd h
in_take (suc n) y [] h = h
in_take (suc n) y (x ∷ xs) h = elim h [
  | inl e ↦ inl e
  | inr rest ↦ inr (in_take n y xs rest)
]

apart_take : {X : Type 0} (n : ℕ) (xs : List X) → Apart xs → Apart (take n xs)
apart_take zero xs apart = tt
apart_take (suc n) [] apart = apart
apart_take (suc n) (x ∷ xs) apart = ((λ h. apart.0 (in_take n x xs h)), apart_take n xs apart.1)

-- texts, each once
dropped_cond : (b : Bool) (x y : List ℕ) (ys : List (List ℕ)) → bytes_eq x y ≡ b → (In x ys → ⊥)
    → In x (cond (not b) (y ∷ ys) ys) → ⊥
dropped_cond true x y ys same none h = none h
dropped_cond false x y ys same none h = elim h [
  | inl e ↦ true≢false (sym ((bytes_eq-Decides x y).1 e) ∙ same)
  | inr rest ↦ none rest
]

dropped : (x : List ℕ) (ys : List (List ℕ)) → In x (filter (λ y. not (bytes_eq x y)) ys) → ⊥
dropped x [] h = h
dropped x (y ∷ ys) h = dropped_cond (bytes_eq x y) x y (filter (λ next. not (bytes_eq x next)) ys) refl (dropped x ys) h

apart_distinct : (texts : List (List ℕ)) → Apart (distinct texts)
apart_distinct [] = tt
apart_distinct (x ∷ texts) =
    (dropped x (distinct texts), apart_filter (λ y. not (bytes_eq x y)) (distinct texts) (apart_distinct texts))

-- tuples of such lists
abbrev Texts : Type 0
Texts = List (List ℕ)

in_longer : (x : List ℕ) (t : Texts) (ts : List Texts) → In (x ∷ t) (map (λ (u : Texts). x ∷ u) ts) → In t ts
in_longer x t [] h = h
in_longer x t (u ∷ ts) h = elim h [
  | inl e ↦ inl (cc)
  | inr rest ↦ inr (in_longer x t ts rest)
]

apart_longer : (x : List ℕ) (ts : List Texts) → Apart ts → Apart (map (λ (u : Texts). x ∷ u) ts)
apart_longer x [] apart = tt
apart_longer x (t ∷ ts) apart = ((λ h. apart.0 (in_longer x t ts h)), apart_longer x ts apart.1)

-- a text of the list stands first
abbrev Begins : Texts → Texts → Type 0
Begins texts t = (x : List ℕ) × (rest : Texts) × (t ≡ x ∷ rest) × In x texts

begins_longer : (x : List ℕ) (t : Texts) (ts : List Texts) → In t (map (λ (u : Texts). x ∷ u) ts) → (rest : Texts)
    × (t ≡ x ∷ rest)
begins_longer x t [] h = absurd h
begins_longer x t (u ∷ ts) h = elim h [
  | inl e ↦ (u, e)
  | inr rest ↦ begins_longer x t ts rest
]

in_append : {X : Type 0} (y : X) (xs ys : List X) → In y (xs ++ ys) → In y xs ⊎ In y ys
in_append y [] ys h = inr h
in_append y (x ∷ xs) ys h = elim h [
  | inl e ↦ inl (inl e)
  | inr rest ↦ elim (in_append y xs ys rest) [
    | inl front ↦ inl (inr front)
    | inr back ↦ inr back
  ]
]

begins : (texts t : Texts) (ts : List Texts) → In t (flat_map (λ (x : List ℕ). map (λ (u : Texts). x ∷ u) ts) texts)
    → Begins texts t
begins [] t ts h = absurd h
begins (x ∷ texts) t ts h =
    elim (in_append t (map (λ (u : Texts). x ∷ u) ts)
    (flat_map (λ (y : List ℕ). map (λ (u : Texts). y ∷ u) ts) texts) h) [
      | inl front ↦
          let f : (rest : Texts) × (t ≡ x ∷ rest) = begins_longer x t ts front in
          (x, f.0, f.1, inl refl)
      | inr back ↦
          let f : Begins texts t = begins texts t ts back in
          (f.0, f.1, f.2, inr f.3)
    ]

apart_append : {X : Type 0} (xs ys : List X) → Apart xs → Apart ys → ((y : X) → In y xs → In y ys → ⊥)
    → Apart (xs ++ ys)
apart_append [] ys a b none = b
apart_append (x ∷ xs) ys a b none = (
  (λ h. elim (in_append x xs ys h) [
    | inl front ↦ a.0 front
    | inr back ↦ none x (inl refl) back
  ]),
  apart_append xs ys a.1 b (λ y h g. none y (inr h) g),
)

same_head : (x y : List ℕ) (t s r : Texts) → t ≡ x ∷ s → t ≡ y ∷ r → x ≡ y
same_head x y t s r e f = cc

apart_flat : (texts : Texts) (ts : List Texts) → Apart texts → Apart ts
    → Apart (flat_map (λ (x : List ℕ). map (λ (u : Texts). x ∷ u) ts) texts)
apart_flat [] ts a b = tt
apart_flat (x ∷ texts) ts a b =
    apart_append (map (λ (u : Texts). x ∷ u) ts) (flat_map (λ (y : List ℕ). map (λ (u : Texts). y ∷ u) ts) texts)
    (apart_longer x ts b) (apart_flat texts ts a.1 b)
    (λ t h g.
    let f : (rest : Texts) × (t ≡ x ∷ rest) = begins_longer x t ts h in
    let k : Begins texts t = begins texts t ts g in
    a.0 (subst (λ (y : List ℕ). In y texts) (sym (same_head x k.0 t f.0 k.1 f.1 k.2)) k.3))

abbrev AllApart : List Texts → Type 0
AllApart [] = Unit {0}
AllApart (texts ∷ lists) = Apart texts × AllApart lists

apart_tuples : (lists : List Texts) → AllApart lists → Apart (tuples lists)
apart_tuples [] all = ((λ h. h), tt)
apart_tuples (texts ∷ lists) all = apart_flat texts (tuples lists) all.0 (apart_tuples lists all.1)

all_apart : (forms : List Form) (tree : Tree) → AllApart (map (λ f. key_texts (texts_of f tree)) forms)
all_apart [] tree = tt
all_apart (f ∷ forms) tree = (apart_distinct _, all_apart forms tree)

pub apart_keys : (forms : List Form) (tree : Tree) → Apart (keys_of forms tree)
apart_keys forms tree = apart_take most _ (apart_tuples _ (all_apart forms tree))

-- std's word for that
in_at : {X : Type 0} (xs : List X) (j : ℕ) (d : X) → j < length xs → In (get_or xs j d) xs
in_at [] j d h = absurd (omega arith)
in_at (x ∷ xs) zero d h = inl refl
in_at (x ∷ xs) (suc j) d h = inr (in_at xs j d (omega arith))

pub pairs_apart : {X : Type 0} (xs : List X) → Apart xs → AllPairs (λ x y. x ≢ y) xs
pairs_apart [] apart i j d before within = absurd (omega arith)
pairs_apart (x ∷ xs) apart zero zero d before within = absurd (omega arith)
pairs_apart (x ∷ xs) apart zero (suc j) d before within =
    λ e. apart.0 (subst (λ y. In y xs) (sym e) (in_at xs j d (omega arith)))
pairs_apart (x ∷ xs) apart (suc i) zero d before within = absurd (omega arith)
pairs_apart (x ∷ xs) apart (suc i) (suc j) d before within = pairs_apart xs apart.1 i j d (omega arith) (omega arith)

pub keys_of-apart : (forms : List Form) (tree : Tree) → AllPairs (λ key other. key ≢ other) (keys_of forms tree)
keys_of-apart forms tree = pairs_apart (keys_of forms tree) (apart_keys forms tree)
