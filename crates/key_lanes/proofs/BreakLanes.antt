-- The lanes of a block where CR stands and LF follows.
use Rattle.std.proofs.Common.{◌≡◌, ℕ, ◌+◌, ◌%◌, ◌^◌, ◌<◌, eqb, Bool, true, false, ◌&&◌, List, map, length, get_or}
use Rattle.std.proofs.Common.{replicate, w8, bit_and, refl, sym, ap, ap₂, ◌∙◌, arith}
use Rattle.std.specs.Prelude.{Option, MatchOption}
use Rattle.std.proofs.lemmas.Bool.{and_parts, eqb-true, eqb-false, eq-eqb}
use Rattle.std.proofs.lemmas.Simd.{bitmask_splat, none_from_empty_mask, length-chunk, get_or-chunk, length-replicate}
use Rattle.std.proofs.lemmas.Simd.{get_or-replicate}
use lib.Lanes.{chunk, zip2, mask_l, top}
use Rattle.key_lanes.specs.inner.Blocks.{first_set}
use Rattle.key_lanes.specs.Breaks.{IsBreak, NoBreak, IsFirstBreak}
use Rattle.key_lanes.proofs.Masks.{Fails, IsFirstLane, match_map, first_lane, compared, length-both, top-both_compared}

-- the bytes of CR LF at a place
abbrev is_break : List ℕ → ℕ → Bool
is_break bytes k = eqb (get_or bytes k 0) 13 && eqb (get_or bytes (k + 1) 0) 10

is_break-IsBreak : (bytes : List ℕ) (k : ℕ) → k + 1 < length bytes → is_break bytes k ≡ true → IsBreak bytes k
is_break-IsBreak bytes k inside is =
    let both = and_parts _ _ is in
    (inside, eqb-true _ _ both.0, eqb-true _ _ both.1)

Fails-NoBreak : (bytes : List ℕ) (low high : ℕ) → Fails (is_break bytes) low high → NoBreak bytes low high
Fails-NoBreak bytes low high none k from to is =
    absurd (cc (none k from to, ap₂ (λ b c. b && c) (eq-eqb _ _ is.1) (eq-eqb _ _ is.2)))

-- a block without CR
pub NoBreak-without_ends : (bytes : List ℕ) (at : ℕ) → at + 16 < length bytes
    → mask_l (map (top 7) (compared eqb (chunk at 16 bytes) (replicate 16 13))) % 2 ^ 64 ≡ 0
    → NoBreak bytes at (at + 16)
NoBreak-without_ends bytes at room empty k from to is =
    let long = length-chunk at 16 bytes (omega arith) in
    let no_lane = sym (bitmask_splat w8 eqb (chunk at 16 bytes) 16 13 long (omega arith)) ∙ empty in
    eqb-false _ _ (none_from_empty_mask (λ x. eqb x 13) bytes at 16 0 (omega arith) no_lane k from to) is.1

pub break_lane : (bytes : List ℕ) (at : ℕ) (found : Option ℕ) → at + 16 < length bytes
    → found ≡ first_set (mask_l
    (map (top 7) (zip2 bit_and (compared eqb (chunk at 16 bytes) (replicate 16 13))
    (compared eqb (chunk (at + 1) 16 bytes) (replicate 16 10)))) % 2 ^ 64)
    → MatchOption found (NoBreak bytes at (at + 16)) (λ lane. (lane < 16) × IsFirstBreak bytes at (at + lane))
break_lane bytes at found room is =
    let xs = chunk at 16 bytes in
    let us = chunk (at + 1) 16 bytes in
    let long_x = length-chunk at 16 bytes (omega arith) in
    let long_u = length-chunk (at + 1) 16 bytes (omega arith) in
    let long_r : length (replicate {A = ℕ} 16 13) ≡ 16 = length-replicate {A = ℕ} 16 13 in
    let long_n : length (replicate {A = ℕ} 16 10) ≡ 16 = length-replicate {A = ℕ} 16 10 in
    let lanes = zip2 bit_and (compared eqb xs (replicate 16 13)) (compared eqb us (replicate 16 10)) in
    let says : (j : ℕ) → j < 16 → top 7 (get_or lanes j 0) ≡ is_break bytes (at + j) =
    λ j lt.
    let next : at + 1 + j ≡ at + j + 1 = omega arith in
    let cr = ap₂ eqb (get_or-chunk at 16 bytes j 0 lt) (get_or-replicate 16 j 13 0 lt) in
    let lf = ap₂ eqb (get_or-chunk (at + 1) 16 bytes j 0 lt ∙ ap (λ k. get_or bytes k 0) next)
    (get_or-replicate 16 j 10 0 lt) in
    top-both_compared 16 xs (replicate 16 13) us (replicate 16 10) long_x long_r long_u long_n eqb eqb j lt
    ∙ ap₂ (λ b c. b && c) cr lf in
    let long = length-both 16 xs (replicate 16 13) us (replicate 16 10) long_x long_r long_u long_n eqb eqb in
    let first = first_lane (is_break bytes) at 16 lanes long (omega arith) says in
    rw is (match_map (IsFirstLane (is_break bytes) at 16) (λ lane. (lane < 16) × IsFirstBreak bytes at (at + lane)) _
    (Fails-NoBreak bytes at (at + 16))
    (λ lane one. (
      one.inside,
      (
        omega arith,
        is_break-IsBreak bytes (at + lane) (omega (arith, one.inside)) one.passes,
        Fails-NoBreak bytes at (at + lane) one.before,
      ),
    ))
    first)
