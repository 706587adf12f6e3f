-- Lists of indexes and what is seen of them.
use Rattle.std.proofs.Common.{◌≡◌, ◌≢◌, Bool, true, false, cond, filter, inl, inr, ℕ, zero, suc, ◌+◌, ◌<◌, ◌≤◌, T, List}
use Rattle.std.proofs.Common.{[], ◌∷◌, ◌++◌, length, map, take, get_or, set, refl, sym, subst, ◌∙◌, ap, ap₂, arith}
use Rattle.std.proofs.lemmas.List.{length-append, length-set, take_more, take_more_set, map-append, get_or-set_other}
use Rattle.std.proofs.lemmas.List.{get_or-set_same}
use Rattle.std.proofs.lemmas.Bool.{cases_eq}
use Rattle.std.proofs.lemmas.List.Elements.{All-nil, All-cons, All-head, All-tail, All-map}
use Rattle.std.specs.FinMap.Entries.{is_sorted}
use Rattle.std.specs.List.{All, AllWithin}
use Rattle.conflicts.specs.State.{Text}
use Rattle.index_tables.specs.Documents.{IsTableOf}
use Rattle.index_tables.specs.Order.{Entry}
use Rattle.u1_base.specs.Ids.{id_cmp}
use Rattle.replica_state.specs.Held.{Heading, Names, named}
use Rattle.replica_state.specs.Keyed.{AreTables, Docs, keyed}
use Rattle.replica_state.specs.Named.{AreNamed, heading}
use Rattle.replica_state.specs.inner.Named.{bare, names_of}
use Rattle.replica_state.specs.declared.index.Index.{Index}

module _ {X Y : Type 0} (f : X → Y) (P : Y → Type 0) where
  -- what holds of the images holds behind them
  pub All-unmap : (xs : List X) → All P (map f xs) → All (λ x. P (f x)) xs
  All-unmap [] all = All-nil (λ x. P (f x))
  All-unmap (x ∷ xs) all = All-cons (λ y. P (f y)) x xs (All-head P (f x) (map f xs) all)
      (All-unmap xs (All-tail P (f x) (map f xs) all))

pub map-map : {X Y Z : Type 0} (f : Y → Z) (g : X → Y) (xs : List X) → map f (map g xs) ≡ map (λ x. f (g x)) xs
map-map f g [] = refl
map-map {X} {Y} {Z} f g (x ∷ xs) = ap (λ (l : List Z). f (g x) ∷ l) (map-map f g xs)

-- ---- what does not see the room of tables

abbrev Bare : Type 0
Bare = (Text × List Text) × List Entry

pub tables_of_bare : (docs : Docs) (xs ys : List Index) → map bare xs ≡ map bare ys → AreTables docs ys
    → AreTables docs xs
tables_of_bare docs xs ys e all =
    All-unmap bare (λ (b : Bare). IsTableOf (keyed b.0.1 docs) b.1) xs
    (subst (λ (l : List Bare). All (λ (b : Bare). IsTableOf (keyed b.0.1 docs) b.1) l) (sym e)
    (All-map (λ (b : Bare). IsTableOf (keyed b.0.1 docs) b.1) bare ys all))

pub names_of_bare : (xs ys : List Index) → map bare xs ≡ map bare ys → names_of xs ≡ names_of ys
names_of_bare xs ys e =
    sym (map-map (λ (b : Bare). b.0) bare xs) ∙ ap (map (λ (b : Bare). b.0)) e ∙ map-map (λ (b : Bare). b.0) bare ys

-- the names that a contract sees
pub named_is : (xs : List Index) → named (map heading xs) ≡ names_of xs
named_is xs = map-map (λ (x : Heading). (x.name, x.exprs)) heading xs

pub named_again : (xs ys : List Index) → names_of xs ≡ names_of ys → named (map heading xs) ≡ named (map heading ys)
named_again xs ys e = named_is xs ∙ e ∙ sym (named_is ys)

pub order_kept : (xs ys : List Index) → names_of xs ≡ names_of ys → AreNamed ys → AreNamed xs
order_kept xs ys e h = subst (λ (names : Names). T (is_sorted id_cmp names)) (sym (named_again xs ys e)) h

-- ---- one item of a list

pub snoc_parts : {X : Type 0} (xs ys : List X) (a b : X) → xs ++ a ∷ [] ≡ ys ++ b ∷ [] → (xs ≡ ys) × (a ≡ b)
snoc_parts [] [] a b e = let same : a ≡ b = cc in (refl, same)
snoc_parts [] (y ∷ ys) a b e = absurd (omega (arith, ap length e, length-append ys (b ∷ [])))
snoc_parts (x ∷ xs) [] a b e = absurd (omega (arith, ap length e, length-append xs (a ∷ [])))
snoc_parts (x ∷ xs) (y ∷ ys) a b e =
    let head : x ≡ y = cc in
    let tail : xs ++ a ∷ [] ≡ ys ++ b ∷ [] = cc in
    let rest = snoc_parts xs ys a b tail in
    ((λ i. head i ∷ rest.0 i), rest.1)

module _ {X Y : Type 0} (f : X → Y) where
  -- an item in the place of one with the same image
  pub map_set_same : (xs : List X) (i : ℕ) (x y : X) → i < length xs → x ≡ get_or xs i x → f y ≡ f x
      → map f (set xs i y) ≡ map f xs
  map_set_same [] i x y lt is e = absurd (omega arith)
  map_set_same (z ∷ xs) zero x y lt is e = ap (λ (w : Y). w ∷ map f xs) (e ∙ ap f is)
  map_set_same (z ∷ xs) (suc i) x y lt is e = ap (λ (l : List Y). f z ∷ l) (map_set_same xs i x y (omega arith) is e)

  -- the images of one item more, where that one was set
  pub map_take_set : (xs : List X) (i n : ℕ) (y : X) (cs more : List Y) (c : Y) → i < length xs → n ≡ i + 1
      → cs ≡ map f (take i xs) → more ≡ cs ++ c ∷ [] → c ≡ f y → more ≡ map f (take n (set xs i y))
  map_take_set xs i n y cs more c lt next is more_is c_is =
      more_is
      ∙ ap₂ (λ (l : List Y) (d : Y). l ++ d ∷ []) is c_is
      ∙ sym (map-append f (take i xs) (y ∷ []))
      ∙ ap (map f) (sym (take_more_set xs i y lt))
      ∙ ap (λ (m : ℕ). map f (take m (set xs i y))) (sym next)

  -- the last image is that of the last item
  pub map_take_last : (xs : List X) (i n : ℕ) (x : X) (cs rest : List Y) (c : Y) → i < length xs → n ≡ i + 1
      → x ≡ get_or xs i x → cs ≡ map f (take n xs) → cs ≡ rest ++ c ∷ [] → (rest ≡ map f (take i xs)) × (c ≡ f x)
  map_take_last xs i n x cs rest c lt next is all split =
      let parts = snoc_parts rest (map f (take i xs)) c (f (get_or xs i x))
      (sym split ∙ all ∙ ap (λ (m : ℕ). map f (take m xs)) next ∙ ap (map f) (take_more xs i x lt)
      ∙ map-append f (take i xs) (get_or xs i x ∷ [])) in
      (parts.0, parts.1 ∙ ap f (sym is))

  pub map_filter : (p : Y → Bool) (xs : List X) → map f (filter (λ x. p (f x)) xs) ≡ filter p (map f xs)
  map_filter p [] = refl
  map_filter p (x ∷ xs) = elim (p (f x)) as
      (λ (b : Bool). map f (cond b (x ∷ filter (λ y. p (f y)) xs) (filter (λ y. p (f y)) xs))
      ≡ cond b (f x ∷ filter p (map f xs)) (filter p (map f xs))) [
        | true ↦ ap (λ (l : List Y). f x ∷ l) (map_filter p xs)
        | false ↦ map_filter p xs
      ]

-- one item is set
module _ {X : Type 0} (xs : List X) (i n m : ℕ) (y : X) (lt : i < length xs) (n_is : n ≡ i) (m_is : m ≡ i + 1) where
  pub front_kept : (P : X → Type 0) → AllWithin P xs 0 m → AllWithin P (set xs i y) 0 n
  front_kept P all k d low less = subst P (sym (get_or-set_other xs i k y d (λ e. omega (arith, e))))
      (all k d low (omega arith))

  pub back_done : (P : X → Type 0) → P y → AllWithin P xs m (length xs)
      → AllWithin P (set xs i y) n (length (set xs i y))
  back_done P here all k d low less = elim (cases_eq k i) [
    | inl e ↦ subst P (sym (ap (λ (j : ℕ). get_or (set xs i y) j d) e ∙ get_or-set_same xs i y d lt)) here
    | inr other ↦ subst P (sym (get_or-set_other xs i k y d other))
        (all k d (beyond other) (omega (arith, length-set xs i y)))
  ]
    where
      beyond : (k ≢ i) → m ≤ k
      beyond other = omega (arith, other)

  pub take_front : take n (set xs i y) ≡ take i xs
  take_front = ap (λ (j : ℕ). take j (set xs i y)) n_is ∙ kept xs i
    where
      kept : (l : List X) (j : ℕ) → take j (set l j y) ≡ take j l
      kept l zero = refl
      kept [] (suc j) = refl
      kept (x ∷ l) (suc j) = ap (λ (r : List X). x ∷ r) (kept l j)
