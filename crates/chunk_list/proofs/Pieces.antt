-- A list that is joined from pieces: where each piece begins, and what a change in one piece does to the whole.
use Rattle.std.proofs.Common.{◌≡◌, ℕ, ◌+◌, ◌*◌, ◌<◌, ◌≤◌, List, [], ◌∷◌, ◌++◌, length, get_or, set, take, zero, suc}
use Rattle.std.proofs.Common.{refl, sym, ◌∙◌, ap, arith, append_assoc, length-append}
use Rattle.std.proofs.Math.Seq.{take-set-lt}
use Rattle.std.proofs.lemmas.List.{get_or-take, length-take, take-set-le, take-take, take_all}
use Rattle.std.proofs.lemmas.List.Concat.{length-flat_map}
use Rattle.std.proofs.lemmas.List.Folds.{length-flat_map-take}
use Rattle.std.proofs.lemmas.List.Sums.{sum_by-set, sum_by-take-le, sum_by_more}
use Rattle.std.specs.List.{flat_map, insert, remove}
use Rattle.chunk_list.specs.Chunks.{start_at}

-- what stands before a place, where something comes in or goes out there or behind it
pub take-insert : {X : Type 0} (n : ℕ) (xs : List X) (i : ℕ) (x : X) → n ≤ i → i ≤ length xs
    → take n (insert xs i x) ≡ take n xs
take-insert zero xs i x le within = refl
take-insert (suc n) [] i x le within = absurd (omega arith)
take-insert (suc n) (y ∷ xs) zero x le within = absurd (omega arith)
take-insert (suc n) (y ∷ xs) (suc i) x le within =
    ap (λ (l : List _). y ∷ l) (take-insert n xs i x (omega arith) (omega arith))

pub take-remove : {X : Type 0} (n : ℕ) (xs : List X) → take n (remove xs n) ≡ take n xs
take-remove zero xs = refl
take-remove (suc n) [] = refl
take-remove (suc n) (y ∷ xs) = ap (λ (l : List _). y ∷ l) (take-remove n xs)

module _ {X T : Type 0} (f : X → List T) where
  pub start_at-end : (xs : List X) (n : ℕ) → n ≡ length xs → start_at f xs n ≡ length (flat_map f xs)
  start_at-end xs n e = ap (λ (l : List X). length (flat_map f l)) (take_all n xs (omega arith))

  pub start_at-next : (xs : List X) (k : ℕ) (d : X) → k < length xs
      → start_at f xs (k + 1) ≡ start_at f xs k + length (f (get_or xs k d))
  start_at-next xs k d lt =
      omega (
        arith,
        sum_by_more (λ x. length (f x)) xs k d lt,
        length-flat_map f (take k xs),
        length-flat_map f (take (k + 1) xs),
      )

  -- all pieces begin inside the whole, and later ones later
  pub start_at-most : (xs : List X) (k : ℕ) → start_at f xs k ≤ length (flat_map f xs)
  start_at-most xs k = omega (
    arith,
    sum_by-take-le (λ x. length (f x)) xs k,
    length-flat_map f (take k xs),
    length-flat_map f xs,
  )

  pub start_at-later : (xs : List X) (i k : ℕ) (d : X) → i < length xs → i < k
      → start_at f xs i + length (f (get_or xs i d)) ≤ start_at f xs k
  start_at-later xs i k d lt gt =
      let inside = length-flat_map-take f (take k xs) i d (omega (arith, length-take k xs)) in
      omega (
        arith,
        inside,
        ap (λ (l : List X). length (flat_map f l)) (take-take i k xs (omega arith)),
        ap (λ (x : X). length (f x)) (get_or-take k xs i d gt),
      )

  -- an edit at a place of one piece is that edit of the whole, where it is one of either part of two lists that are
  -- joined
  module _ (E : List T → ℕ → List T) (W : ℕ → ℕ → Type 0)
      (left : (xs ys : List T) (p : ℕ) → W p (length xs) → E (xs ++ ys) p ≡ E xs p ++ ys)
      (right : (xs ys : List T) (p : ℕ) → E (xs ++ ys) (length xs + p) ≡ xs ++ E ys p)
    where
      pub edit-joined : (xs : List X) (i p : ℕ) (c d : X) → i < length xs → W p (length (f (get_or xs i d)))
          → f c ≡ E (f (get_or xs i d)) p → flat_map f (set xs i c) ≡ E (flat_map f xs) (start_at f xs i + p)
      edit-joined [] i p c d lt inside is = absurd (omega arith)
      edit-joined (y ∷ xs) zero p c d lt inside is =
          ap (λ (l : List T). l ++ flat_map f xs) is ∙ sym (left (f y) (flat_map f xs) p inside)
          ∙ ap (E (f y ++ flat_map f xs)) (omega arith)
      edit-joined (y ∷ xs) (suc i) p c d lt inside is =
          ap (λ (l : List T). f y ++ l) (edit-joined xs i p c d (omega arith) inside is)
          ∙ sym (right (f y) (flat_map f xs) (start_at f xs i + p))
          ∙ ap (E (f y ++ flat_map f xs)) (omega (arith, length-append (f y) (flat_map f (take i xs))))

  -- one piece changed: those up to it begin where they did, and the later ones as much later as it is longer
  pub start_at-set_low : (xs : List X) (i k : ℕ) (c : X) → k ≤ i → start_at f (set xs i c) k ≡ start_at f xs k
  start_at-set_low xs i k c le = ap (λ (l : List X). length (flat_map f l)) (take-set-le k xs i c le)

  pub start_at-set_high : (xs : List X) (i k : ℕ) (c d : X) → i < length xs → i < k
      → start_at f (set xs i c) k + length (f (get_or xs i d)) ≡ start_at f xs k + length (f c)
  start_at-set_high xs i k c d lt gt =
      let sums = sum_by-set (λ x. length (f x)) (take k xs) i c d (omega (arith, length-take k xs)) in
      let same = ap (λ (x : X). length (f x)) (get_or-take k xs i d gt) in
      omega (
        arith,
        sums,
        same,
        ap (λ (l : List X). length (flat_map f l)) (take-set-lt k xs i c gt),
        length-flat_map f (set (take k xs) i c),
        length-flat_map f (take k xs),
      )

  -- two pieces side by side that hold the same as before
  pub parted-joined : (xs : List X) (i : ℕ) (lower upper d : X) → suc i < length xs
      → f lower ++ f upper ≡ f (get_or xs i d) ++ f (get_or xs (suc i) d)
      → flat_map f (set (set xs i lower) (suc i) upper) ≡ flat_map f xs
  parted-joined [] i lower upper d lt e = absurd (omega arith)
  parted-joined (x ∷ []) i lower upper d lt e = absurd (omega arith)
  parted-joined (x ∷ y ∷ xs) zero lower upper d lt e =
      sym (append_assoc (f lower) (f upper) (flat_map f xs)) ∙ ap (λ (l : List T). l ++ flat_map f xs) e
      ∙ append_assoc (f x) (f y) (flat_map f xs)
  parted-joined (x ∷ y ∷ xs) (suc i) lower upper d lt e =
      ap (λ (l : List T). f x ++ l) (parted-joined (y ∷ xs) i lower upper d (omega arith) e)

  -- a piece cut in two
  pub cut-joined : (xs : List X) (i : ℕ) (lower upper d : X) → i < length xs → f lower ++ f upper ≡ f (get_or xs i d)
      → flat_map f (insert (set xs i lower) (suc i) upper) ≡ flat_map f xs
  cut-joined [] i lower upper d lt e = absurd (omega arith)
  cut-joined (x ∷ xs) zero lower upper d lt e = sym (append_assoc (f lower) (f upper) (flat_map f xs))
      ∙ ap (λ (l : List T). l ++ flat_map f xs) e
  cut-joined (x ∷ xs) (suc i) lower upper d lt e =
      ap (λ (l : List T). f x ++ l) (cut-joined xs i lower upper d (omega arith) e)

  -- an empty piece taken out
  pub gone-joined : (xs : List X) (i : ℕ) (d : X) → i < length xs → f (get_or xs i d) ≡ []
      → flat_map f (remove xs i) ≡ flat_map f xs
  gone-joined [] i d lt e = absurd (omega arith)
  gone-joined (x ∷ xs) zero d lt e = ap (λ (l : List T). l ++ flat_map f xs) (sym e)
  gone-joined (x ∷ xs) (suc i) d lt e = ap (λ (l : List T). f x ++ l) (gone-joined xs i d (omega arith) e)

  -- pieces that all have so many items
  pub length-full : (xs : List X) (n : ℕ) → ((k : ℕ) (d : X) → k < length xs → n ≤ length (f (get_or xs k d)))
      → length xs * n ≤ length (flat_map f xs)
  length-full [] n all = omega arith
  length-full (x ∷ xs) n all =
      omega (
        arith,
        all 0 x (omega arith),
        length-append (f x) (flat_map f xs),
        length-full xs n (λ k d lt. all (suc k) d (omega arith)),
      )

  -- pieces that are not empty are no more than the items, and one more may be empty
  pub length-pieces : (xs : List X) → ((k : ℕ) (d : X) → 0 < k → k < length xs → 0 < length (f (get_or xs k d)))
      → length xs ≤ length (flat_map f xs) + 1
  length-pieces [] some = omega arith
  length-pieces (x ∷ xs) some =
      omega (
        arith,
        length-append (f x) (flat_map f xs),
        length-full xs 1 (λ k d lt. omega (arith, some (suc k) d (omega arith) (omega arith))),
      )

  -- pieces that all have so many items, and one of them one more
  pub length-over : (xs : List X) (n i : ℕ) → ((k : ℕ) (d : X) → k < length xs → n ≤ length (f (get_or xs k d)))
      → i < length xs → ((d : X) → n < length (f (get_or xs i d)))
      → length xs * n < length (flat_map f xs)
  length-over [] n i all lt more = absurd (omega arith)
  length-over (x ∷ xs) n zero all lt more =
      omega (
        arith,
        more x,
        length-append (f x) (flat_map f xs),
        length-full xs n (λ k d lt. all (suc k) d (omega arith)),
      )
  length-over (x ∷ xs) n (suc i) all lt more =
      omega (
        arith,
        all 0 x (omega arith),
        length-append (f x) (flat_map f xs),
        length-over xs n i (λ k d lt. all (suc k) d (omega arith)) (omega arith) more,
      )
