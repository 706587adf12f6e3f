-- Lists: an item put in or taken out, under a map, a filter or a test.
use Rattle.std.proofs.Common.{◌≡◌, ℕ, ◌<◌, ◌≤◌, Bool, true, false, cond, not, ◌&&◌, ◌||◌, List, [], ◌∷◌, ◌++◌, length}
use Rattle.std.proofs.Common.{map, get_or, take, drop, zero, suc, refl, sym, subst, ◌∙◌, ap, arith, Ordering, Less}
use Rattle.std.proofs.Common.{Equal, Greater}
use Rattle.std.specs.Ordering.{is_lt}
use Rattle.std.specs.List.{HoldsAt, AllPairs, filter, insert, remove, list_any}

pub is_less : (r : Ordering) → is_lt r ≡ true → r ≡ Less
is_less Less p = refl
is_less Equal p = absurd (cc)
is_less Greater p = absurd (cc)

pub or_comm : (a b : Bool) → (a || b) ≡ (b || a)
or_comm true true = refl
or_comm true false = refl
or_comm false true = refl
or_comm false false = refl

pub or_assoc : (a b c : Bool) → (a || (b || c)) ≡ ((a || b) || c)
or_assoc true b c = refl
or_assoc false b c = refl

pub not_or : (a b : Bool) → (not b && not a) ≡ not (a || b)
not_or true true = refl
not_or true false = refl
not_or false true = refl
not_or false false = refl

module _ {X Y : Type 0} (f : X → Y) where
  pub map-insert : (xs : List X) (i : ℕ) (x : X) → map f (insert xs i x) ≡ insert (map f xs) i (f x)
  map-insert [] zero x = refl
  map-insert [] (suc i) x = refl
  map-insert (y ∷ xs) zero x = refl
  map-insert (y ∷ xs) (suc i) x = ap (λ (l : List Y). f y ∷ l) (map-insert xs i x)

  pub map-remove : (xs : List X) (i : ℕ) → map f (remove xs i) ≡ remove (map f xs) i
  map-remove [] zero = refl
  map-remove [] (suc i) = refl
  map-remove (y ∷ xs) zero = refl
  map-remove (y ∷ xs) (suc i) = ap (λ (l : List Y). f y ∷ l) (map-remove xs i)

  -- what holds of the value of an item
  pub holds_map : (P : Y → Type 0) (xs : List X) (i : ℕ) → i < length xs → HoldsAt (λ x. P (f x)) xs i
      → HoldsAt P (map f xs) i
  holds_map P [] i lt h = absurd (omega arith)
  holds_map P (x ∷ xs) zero lt h = λ d. h x
  holds_map P (x ∷ xs) (suc i) lt h = holds_map P xs i (omega arith) (λ d. h d)

module _ {X : Type 0} (f : X → Bool) where
  pub list_any-insert : (xs : List X) (i : ℕ) (y : X) → i ≤ length xs
      → list_any f (insert xs i y) ≡ (list_any f xs || f y)
  list_any-insert [] zero y le = or_comm (f y) false
  list_any-insert [] (suc i) y le = absurd (omega arith)
  list_any-insert (x ∷ xs) zero y le = or_comm (f y) (f x || list_any f xs)
  list_any-insert (x ∷ xs) (suc i) y le = ap (λ (b : Bool). f x || b) (list_any-insert xs i y (omega arith))
      ∙ or_assoc (f x) (list_any f xs) (f y)

  pub none_at : (xs : List X) (i : ℕ) → i < length xs → list_any f xs ≡ false → HoldsAt (λ x. f x ≡ false) xs i
  none_at [] i lt none = absurd (omega arith)
  none_at (x ∷ xs) zero lt none = λ d. or_left (f x) (list_any f xs) none
    where
      or_left : (a b : Bool) → (a || b) ≡ false → a ≡ false
      or_left true b p = absurd (cc)
      or_left false b p = refl
  none_at (x ∷ xs) (suc i) lt none = λ d. none_at xs i (omega arith) (or_right (f x) (list_any f xs) none) d
    where
      or_right : (a b : Bool) → (a || b) ≡ false → b ≡ false
      or_right true b p = absurd (cc)
      or_right false b p = p

  pub filter-filter : (g : X → Bool) (xs : List X) → filter f (filter g xs) ≡ filter (λ x. f x && g x) xs
  filter-filter g [] = refl
  filter-filter g (x ∷ xs) =
      elim (g x) as (λ (b : Bool). filter f (cond b (x ∷ filter g xs) (filter g xs))
      ≡ cond (f x && b) (x ∷ filter (λ y. f y && g y) xs) (filter (λ y. f y && g y) xs)) [
        | true ↦ elim (f x) as (λ (a : Bool). cond a (x ∷ filter f (filter g xs)) (filter f (filter g xs))
            ≡ cond (a && true) (x ∷ filter (λ y. f y && g y) xs) (filter (λ y. f y && g y) xs)) [
              | true ↦ ap (λ (l : List X). x ∷ l) (filter-filter g xs)
              | false ↦ filter-filter g xs
            ]
        | false ↦ elim (f x) as (λ (a : Bool). filter f (filter g xs)
            ≡ cond (a && false) (x ∷ filter (λ y. f y && g y) xs) (filter (λ y. f y && g y) xs)) [
              | true ↦ filter-filter g xs
              | false ↦ filter-filter g xs
            ]
      ]

  -- a list whose end is filtered already, from one place more to one place less
  pub part_gone : (xs : List X) (n : ℕ) → n < length xs → HoldsAt (λ x. f x ≡ false) xs n
      → remove (take (suc n) xs ++ filter f (drop (suc n) xs)) n ≡ take n xs ++ filter f (drop n xs)
  part_gone [] n lt h = absurd (omega arith)
  part_gone (x ∷ xs) zero lt h = ap (λ (b : Bool). cond b (x ∷ filter f xs) (filter f xs)) (sym (h x))
  part_gone (x ∷ xs) (suc n) lt h = ap (λ (l : List X). x ∷ l) (part_gone xs n (omega arith) (λ d. h d))

  pub part_kept : (xs : List X) (n : ℕ) → n < length xs → HoldsAt (λ x. f x ≡ true) xs n
      → take (suc n) xs ++ filter f (drop (suc n) xs) ≡ take n xs ++ filter f (drop n xs)
  part_kept [] n lt h = absurd (omega arith)
  part_kept (x ∷ xs) zero lt h = ap (λ (b : Bool). cond b (x ∷ filter f xs) (filter f xs)) (sym (h x))
  part_kept (x ∷ xs) (suc n) lt h = ap (λ (l : List X). x ∷ l) (part_kept xs n (omega arith) (λ d. h d))

pub holds_first : {X : Type 0} (P : X → Type 0) (xs ys : List X) (n : ℕ) → n < length xs
    → HoldsAt P (take (suc n) xs ++ ys) n → HoldsAt P xs n
holds_first P [] ys n lt h = absurd (omega arith)
holds_first P (x ∷ xs) ys zero lt h = λ d. h d
holds_first P (x ∷ xs) ys (suc n) lt h = λ d. holds_first P xs ys n (omega arith) (λ e. h e) d

pub pairs_first : {X : Type 0} (R : X → X → Type 0) (xs ys : List X) → AllPairs R (xs ++ ys) → AllPairs R xs
pairs_first {X} R xs ys h = λ i j d lt le.
    subst (λ (x : X). R x (get_or xs j d)) (alike xs i d (omega arith))
    (subst (λ (y : X). R (get_or (xs ++ ys) i d) y) (alike xs j d le) (h i j d lt (omega (arith, longer xs))))
  where
    longer : (xs : List X) → length xs ≤ length (xs ++ ys)
    longer [] = omega arith
    longer (x ∷ xs) = omega (arith, longer xs)

    alike : (xs : List X) (i : ℕ) (d : X) → i < length xs → get_or (xs ++ ys) i d ≡ get_or xs i d
    alike [] i d lt = absurd (omega arith)
    alike (x ∷ xs) zero d lt = refl
    alike (x ∷ xs) (suc i) d lt = alike xs i d (omega arith)
