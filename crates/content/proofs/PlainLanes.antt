-- The mask of a block: which of its bytes are special.
use Rattle.std.proofs.Common.{◌≡◌, ℕ, ◌+◌, ◌%◌, ◌^◌, ◌<◌, ◌≤◌, Bool, true, false, not, ◌||◌, inl, inr, cond}
use Rattle.std.proofs.Common.{eqb, ltb, leb, List, [], ◌∷◌, length, map, replicate, get_or, bit_or, refl, sym, ap, ap₂}
use Rattle.std.proofs.Common.{◌∙◌, arith}
use Rattle.std.proofs.lemmas.Bool.{cases_lt}
use Rattle.std.proofs.lemmas.List.{length-map}
use Rattle.std.proofs.lemmas.Simd.{map-map, length-chunk, mask_l-mod, trailing_mask_l, zip2_of_maps, zip2_splat}
use Rattle.std.proofs.lemmas.Simd.{zip2_splat_left, none_from_empty_mask, run_in_chunk_fails, run_in_chunk_le}
use Rattle.std.specs.List.{prefix_len}
use lib.Count.{count_trailing_zeros}
use lib.Lanes.{chunk, zip2, mask_l, top}
use Rattle.content.specs.inner.Fronts.{is_special}

-- what a comparison puts into a lane
abbrev flag : Bool → ℕ
flag b = cond b 255 0

top-four : (a b c d : Bool) → top 7 (bit_or (bit_or (bit_or (flag a) (flag b)) (flag c)) (flag d)) ≡ (a || b || c || d)
top-four true true true true = refl
top-four true true true false = refl
top-four true true false true = refl
top-four true true false false = refl
top-four true false true true = refl
top-four true false true false = refl
top-four true false false true = refl
top-four true false false false = refl
top-four false true true true = refl
top-four false true true false = refl
top-four false true false true = refl
top-four false true false false = refl
top-four false false true true = refl
top-four false false true false = refl
top-four false false false true = refl
top-four false false false false = refl

same_map : (f g : ℕ → Bool) → ((x : ℕ) → f x ≡ g x) → (xs : List ℕ) → map f xs ≡ map g xs
same_map f g same [] = refl
same_map f g same (x ∷ xs) = ap₂ (λ (b : Bool) (bs : List Bool). b ∷ bs) (same x) (same_map f g same xs)

abbrev hit : ℕ → ℕ → ℕ
hit a b = flag (eqb a b)

abbrev below : ℕ → ℕ → ℕ
below a b = flag (ltb a b)

abbrev at_most : ℕ → ℕ → ℕ
at_most a b = flag (leb a b)

pub special_mask : (block : List ℕ) → length block ≡ 16
    → mask_l (map (top 7) (zip2 bit_or (zip2 bit_or
    (zip2 bit_or (zip2 hit block (replicate 16 34)) (zip2 hit block (replicate 16 92)))
    (zip2 below block (replicate 16 32))) (zip2 at_most (replicate 16 128) block))) % 2 ^ 64
    ≡ mask_l (map is_special block)
special_mask block long =
    let quotes = zip2_splat hit block 16 34 long in
    let slashes = zip2_splat hit block 16 92 long in
    let low = zip2_splat below block 16 32 long in
    let high = zip2_splat_left at_most 128 16 block long in
    let lanes = zip2_of_maps bit_or _ _ block
    (zip2_of_maps bit_or _ _ block (zip2_of_maps bit_or _ _ block quotes slashes) low) high in
    ap (λ (l : List ℕ). mask_l (map (top 7) l) % 2 ^ 64) lanes
    ∙ ap (λ (l : List Bool). mask_l l % 2 ^ 64)
    (map-map (top 7) _ block
    ∙ same_map _ is_special (λ x. top-four (eqb x 34) (eqb x 92) (ltb x 32) (leb 128 x)) block)
    ∙ mask_l-mod (map is_special block) 64 (omega (arith, length-map block is_special))

-- the bytes before a place stand as they are, and are ASCII
abbrev pub IsPlainTo : List ℕ → ℕ → Type 0
IsPlainTo bytes end = (k : ℕ) → k < end → is_special (get_or bytes k 0) ≡ false

more_plain : (bytes : List ℕ) (at end : ℕ) → IsPlainTo bytes at
    → ((k : ℕ) → at ≤ k → k < end → is_special (get_or bytes k 0) ≡ false) → IsPlainTo bytes end
more_plain bytes at end before next k below =
    elim (cases_lt k at) [ inl lt ↦ before k lt | inr ge ↦ next k ge below ]

-- a block without a bit is plain
pub plain_block : (bytes : List ℕ) (at found : ℕ) → at + 16 ≤ length bytes
    → found ≡ mask_l (map is_special (chunk at 16 bytes)) → found ≡ 0 → IsPlainTo bytes at → IsPlainTo bytes (at + 16)
plain_block bytes at found room is none before =
    more_plain bytes at (at + 16) before (none_from_empty_mask is_special bytes at 16 0 room (sym is ∙ none))

-- a block is plain up to its lowest bit
pub plain_to_bit : (bytes : List ℕ) (at found : ℕ) → at + 16 ≤ length bytes
    → found ≡ mask_l (map is_special (chunk at 16 bytes)) → 0 < found → IsPlainTo bytes at
    → (at + count_trailing_zeros 64 found ≤ length bytes) × IsPlainTo bytes (at + count_trailing_zeros 64 found)
plain_to_bit bytes at found room is some before =
    let lane = count_trailing_zeros 64 found in
    let counted : lane ≡ prefix_len (λ x. not (is_special x)) (chunk at 16 bytes) =
    ap (count_trailing_zeros 64) is
    ∙ trailing_mask_l is_special 64 (chunk at 16 bytes) (omega (arith, length-chunk at 16 bytes room))
    (omega (arith, is, some)) in (
      omega (arith, room, run_in_chunk_le is_special bytes at 16 lane 0 room counted),
      more_plain bytes at (at + lane) before (run_in_chunk_fails is_special bytes at 16 lane 0 room counted),
    )
