-- The lanes of a block that are not ASCII, and the block in small letters.
use Rattle.std.proofs.Common.{◌≡◌, ℕ, ◌+◌, ◌-◌, ◌%◌, ◌^◌, ◌<◌, ◌≤◌, eqb, ltb, leb, Bool, true, false, cond, List, []}
use Rattle.std.proofs.Common.{◌∷◌, map, drop, length, get_or, replicate, bit_or, Fits, w8, refl, sym, ap, ap₂, ◌∙◌}
use Rattle.std.proofs.Common.{subst, arith, inl, inr}
use Rattle.std.specs.Prelude.{Some, None, MatchOption}
use Rattle.std.specs.Bool.{MatchBool}
use Rattle.std.specs.Char.{to_ascii_lowercase}
use Rattle.std.specs.Str.{IsAscii, IsNotAscii}
use Rattle.std.specs.Int.{w64, trailing_zeros}
use Rattle.std.proofs.lemmas.Bool.{agree_below, agree_below_at, cases_lt, eqb-true, leb-true, leb-false}
use Rattle.std.proofs.lemmas.Simd.{length-chunk, get_or-chunk, length-replicate, get_or-replicate, zip2_splat}
use Rattle.std.proofs.lemmas.Simd.{zip2_of_maps, splat_is_map, map-map, get_or-put_chunk_at, get_or-put_chunk_below}
use Rattle.std.proofs.lemmas.Simd.{get_or-put_chunk_above}
use Rattle.std.proofs.lemmas.List.{length-map, get_or-map, get_or-drop, ext_get_or}
use lib.Lanes.{chunk, put_chunk, zip2, sel_l, mask_l, top}
use Rattle.key_lanes.specs.inner.Blocks.{AsciiBetween, IsLowered, IsStored}
use Rattle.key_lanes.proofs.Masks.{Fails, IsFirstLane, first_lane, compared, flag, length-compared, top-compared}

-- ---- whether all are ASCII

is_beyond : List ℕ → ℕ → Bool
is_beyond bytes k = leb 128 (get_or bytes k 0)

-- an empty mask is one in which no lowest bit is found
empty_or_first : (empty : Bool) (lane : ℕ) (A : Type 0) (B : ℕ → Type 0)
    → MatchOption (cond empty None (Some lane)) A B → MatchBool empty A ((n : ℕ) × B n)
empty_or_first true lane A B none = none
empty_or_first false lane A B some = (lane, some)

match_bool_map : (A A' B B' : Type 0) (b : Bool) → (A → A') → (B → B') → MatchBool b A B → MatchBool b A' B'
match_bool_map A A' B B' true f g is = f is
match_bool_map A A' B B' false f g is = g is

pub ascii_mask : (bytes : List ℕ) (at : ℕ) → at + 16 ≤ length bytes
    → MatchBool (eqb (mask_l (map (top 7) (compared leb (replicate 16 128) (chunk at 16 bytes))) % 2 ^ 64) 0)
    (AsciiBetween bytes at (at + 16)) (IsNotAscii bytes)
unfolding is_beyond
ascii_mask bytes at room =
    let splat : List ℕ = replicate 16 128 in
    let xs = chunk at 16 bytes in
    let long_s : length splat ≡ 16 = length-replicate {A = ℕ} 16 128 in
    let long_x = length-chunk at 16 bytes room in
    let lanes = compared leb splat xs in
    let says : (j : ℕ) → j < 16 → top 7 (get_or lanes j 0) ≡ is_beyond bytes (at + j) =
    λ j lt. top-compared 16 splat xs long_s long_x leb j lt
    ∙ ap₂ leb (get_or-replicate 16 j 128 0 lt) (get_or-chunk at 16 bytes j 0 lt) in
    let mask = mask_l (map (top 7) lanes) % 2 ^ 64 in
    match_bool_map (Fails (is_beyond bytes) at (at + 16)) (AsciiBetween bytes at (at + 16))
    ((lane : ℕ) × IsFirstLane (is_beyond bytes) at 16 lane) (IsNotAscii bytes) (eqb mask 0)
    (λ none k from to. leb-false _ _ (none k from to))
    (λ some. (at + some.0, leb-true _ _ some.1.passes))
    (empty_or_first (eqb mask 0) (trailing_zeros w64 mask) (Fails (is_beyond bytes) at (at + 16))
    (IsFirstLane (is_beyond bytes) at 16)
    (first_lane (is_beyond bytes) at 16 lanes (length-compared 16 splat xs long_s long_x leb) (omega arith) says))

-- what was passed is ASCII, and so is the rest; or the rest is not
pub ascii_rest : (bytes : List ℕ) (at : ℕ) (rest_is : Bool) → AsciiBetween bytes 0 at
    → MatchBool rest_is (IsAscii (drop at bytes)) (IsNotAscii (drop at bytes))
    → MatchBool rest_is (IsAscii bytes) (IsNotAscii bytes)
ascii_rest bytes at rest_is passed is =
    match_bool_map (IsAscii (drop at bytes)) (IsAscii bytes) (IsNotAscii (drop at bytes)) (IsNotAscii bytes) rest_is
    (λ rest k. elim (cases_lt k at) [
      | inl early ↦ passed k (omega arith) early
      | inr late ↦
          let back : at + (k - at) ≡ k = omega arith in
          omega (arith, rest (k - at), get_or-drop at bytes (k - at) 0, ap (λ m. get_or bytes m 0) back)
    ])
    (λ some. (at + some.0, omega (arith, some.1, get_or-drop at bytes some.0 0)))
    is

-- ---- small letters

-- the bytes below `at` are in small letters, and the rest is as it was
abbrev pub IsLoweredTo : List ℕ → List ℕ → ℕ → Type 0
IsLoweredTo old new at =
    ((k : ℕ) → k < at → get_or new k 0 ≡ to_ascii_lowercase (get_or old k 0))
    × ((k : ℕ) → at ≤ k → get_or new k 0 ≡ get_or old k 0)

-- one lane, where `sub` is the difference that wraps round
abbrev lowered : (ℕ → ℕ → ℕ) → ℕ → ℕ
lowered sub x = cond (top 7 (flag (ltb (sub x 65) 26))) (bit_or x 32) x

selected : (p : ℕ → Bool) (f : ℕ → ℕ) (xs : List ℕ) → sel_l (map p xs) (map f xs) xs ≡ map (λ x. cond (p x) (f x) x) xs
selected p f [] = refl
selected p f (x ∷ xs) = ap (λ r. cond (p x) (f x) x ∷ r) (selected p f xs)

module _ (sub : ℕ → ℕ → ℕ) (bytes : List ℕ) (at : ℕ) (room : at + 16 ≤ length bytes) where
  abbrev block : List ℕ
  block = chunk at 16 bytes

  abbrev stored : List ℕ
  stored = sel_l (map (top 7) (compared ltb (zip2 sub block (replicate 16 65)) (replicate 16 26)))
      (zip2 bit_or block (replicate 16 32)) block

  long : length block ≡ 16
  long = length-chunk at 16 bytes room

  stored_is : stored ≡ map (lowered sub) block
  stored_is =
      let from_a : zip2 sub block (replicate 16 65) ≡ map (λ x. sub x 65) block = zip2_splat sub block 16 65 long in
      let tested = zip2_of_maps (λ (x y : ℕ). flag (ltb x y)) (λ x. sub x 65) (λ _. 26) block from_a
      (splat_is_map block 16 26 long) in
      let mask = ap (map (top 7)) tested ∙ map-map (top 7) (λ x. flag (ltb (sub x 65) 26)) block in
      ap₂ (λ m y. sel_l m y block) mask (zip2_splat bit_or block 16 32 long)
      ∙ selected (λ x. top 7 (flag (ltb (sub x 65) 26))) (λ x. bit_or x 32) block

  length-stored : length stored ≡ 16
  length-stored = ap length stored_is ∙ length-map block (lowered sub) ∙ long

  pub lowered_is : ((k : ℕ) → Fits w8 (get_or bytes k 0))
      → agree_below (λ x. eqb (lowered sub x) (to_ascii_lowercase x)) (λ _. true) 256 ≡ true → IsLowered bytes at stored
  lowered_is fits each_byte = (
    length-stored,
    λ j lt.
        let lane = ap (λ l. get_or l j 0) stored_is ∙ get_or-map (lowered sub) block j 0 0 (omega (arith, long))
        ∙ ap (lowered sub) (get_or-chunk at 16 bytes j 0 lt) in
        let byte = eqb-true _ _
        (agree_below_at (λ x. eqb (lowered sub x) (to_ascii_lowercase x)) (λ _. true) 256
        (get_or bytes (at + j) 0) each_byte (fits (at + j)).fits) in
        lane ∙ byte,
  )

pub stored_block : (bytes : List ℕ) (at : ℕ) (block : List ℕ) → at + 16 ≤ length bytes → length block ≡ 16
    → IsStored bytes at block (put_chunk at bytes block)
stored_block bytes at block room whole = (
  λ j lt. get_or-put_chunk_at at bytes block j 0 (omega arith) (omega arith),
  λ k side. elim side [
    | inl below ↦ get_or-put_chunk_below at bytes block k 0 below
    | inr above ↦ get_or-put_chunk_above at bytes block k 0 (omega arith)
  ],
)

-- one block more is in small letters
pub lowered_more : (old now next : List ℕ) (at : ℕ) (block : List ℕ) → IsLoweredTo old now at → IsLowered now at block
    → IsStored now at block next → IsLoweredTo old next (at + 16)
lowered_more old now next at block before is stored = (
  λ k to. elim (cases_lt k at) [
    | inl early ↦ stored.1 k (inl early) ∙ before.0 k early
    | inr late ↦
        let back : at + (k - at) ≡ k = omega arith in
        let here = stored.0 (k - at) (omega arith) ∙ is.1 (k - at) (omega arith) in
        subst (λ m. get_or next m 0 ≡ to_ascii_lowercase (get_or now m 0)) back here
        ∙ ap to_ascii_lowercase (before.1 k late)
  ],
  λ k from. stored.1 k (inr from) ∙ before.1 k (omega arith),
)

-- the last block, which was read at first, makes the whole
pub lowered_whole : (old now next : List ℕ) (at last : ℕ) (block : List ℕ) → last ≤ at → last + 16 ≡ length old
    → length next ≡ length old
    → IsLoweredTo old now at → IsLowered old last block → IsStored now last block next
    → next ≡ map to_ascii_lowercase old
lowered_whole old now next at last block overlaps ends same before is stored =
    ext_get_or 0 next (map to_ascii_lowercase old) (same ∙ sym (length-map old to_ascii_lowercase)) (λ k inside.
    let value : get_or next k 0 ≡ to_ascii_lowercase (get_or old k 0) =
    elim (cases_lt k last) [
      | inl early ↦ stored.1 k (inl early) ∙ before.0 k (omega arith)
      | inr late ↦
          let back : last + (k - last) ≡ k = omega arith in
          subst (λ m. get_or next m 0 ≡ to_ascii_lowercase (get_or old m 0)) back
          (stored.0 (k - last) (omega arith) ∙ is.1 (k - last) (omega arith))
    ] in
    value ∙ sym (get_or-map to_ascii_lowercase old k 0 0 (omega arith)))
