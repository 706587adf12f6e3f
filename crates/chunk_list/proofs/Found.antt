-- What a search in one chunk says of the whole list.
use Rattle.std.proofs.Common.{◌≡◌, ℕ, ◌+◌, ◌-◌, ◌<◌, ◌≤◌, List, length, get_or, sym, subst, ◌∙◌, ap, arith, min, inl}
use Rattle.std.proofs.Common.{inr}
use Rattle.std.proofs.lemmas.Bool.{cases_lt}
use Rattle.std.proofs.lemmas.List.{get_or_default}
use Rattle.std.proofs.lemmas.List.Concat.{get_or-flat_map}
use Rattle.std.proofs.lemmas.List.Folds.{length-flat_map-take}
use Rattle.std.specs.Global.{Vec}
use Rattle.std.specs.Vec.{vec_items, vec_len}
use Rattle.std.specs.List.{HoldsAt}
use Rattle.chunk_list.specs.Chunks.{begin_of, start_at, joined, AreLaidOut}
use Rattle.chunk_list.proofs.Pieces.{start_at-end, start_at-next}

-- what holds at a place of a chunk holds there in the list
pub holds_joined : {T : Type 0} (chunks : List (Vec T)) (P : T → Type 0) (i j : ℕ) (c : Vec T) → i < length chunks
    → c ≡ get_or chunks i c → j < vec_len c → HoldsAt P c.items j
    → HoldsAt P (joined chunks) (start_at vec_items chunks i + j)
holds_joined chunks P i j c within is inside holds = λ d.
    let fits : j < length (vec_items (get_or chunks i c)) = omega (arith, ap vec_len is, (get_or chunks i c).ok.0) in
    subst P (ap (λ (v : Vec _). get_or (vec_items v) j d) is
    ∙ sym (get_or-flat_map vec_items chunks i j c d within fits)) (holds d)

-- what holds of the first item of a chunk that was looked at
pub begun : {T : Type 0} (chunks : List (Vec T)) (at : ℕ) (c : Vec T) (P : T → Type 0) → at < length chunks
    → c ≡ get_or chunks at c → HoldsAt P (vec_items c) 0 → HoldsAt (λ v. HoldsAt P (vec_items v) 0) chunks at
begun chunks at c P within is holds d =
    subst (λ (v : Vec _). HoldsAt P (vec_items v) 0) (is ∙ get_or_default chunks at c d within) holds

-- a search ended at a place r of a chunk, of which the first `known` items pass
pub record IsSearched {T : Type 0} (chunks : List (Vec T)) (inside bases : List ℕ)
    (at start r known : ℕ) (c : Vec T) : Type 0 where
  pub laid_out : AreLaidOut chunks inside bases
  pub within : at < length chunks
  pub start_is : start ≡ begin_of inside bases at
  pub is : c ≡ get_or chunks at c
  pub known_is : known ≡ min at 1
  pub low : known ≤ r
  pub high : r ≤ vec_len c

module _ {T : Type 0} {chunks : List (Vec T)} {inside bases : List ℕ} {at start r known : ℕ}
    {c : Vec T} (s : IsSearched chunks inside bases at start r known c) where
  pub begin_is : start ≡ start_at vec_items chunks at
  begin_is = s.start_is ∙ s.laid_out.starts_are.begins at s.within

  same_len : vec_len c ≡ length (vec_items (get_or chunks at c))
  same_len = ap vec_len s.is ∙ (get_or chunks at c).ok.0

  pub found_within : start + r ≤ length (joined chunks)
  found_within = omega (arith, begin_is, same_len, s.high, length-flat_map-take vec_items chunks at c s.within)

  pub chunk_within : vec_len c ≤ length (joined chunks)
  chunk_within = omega (arith, same_len, length-flat_map-take vec_items chunks at c s.within)

  pub found_before : (P : T → Type 0) → (0 < at → HoldsAt (λ v. HoldsAt P (vec_items v) 0) chunks at)
      → (known < r → HoldsAt P (vec_items c) (r - 1)) → 0 < start + r → HoldsAt P (joined chunks) (start + r - 1)
  found_before P here before some =
      let positive : 0 < r = elim (cases_lt 0 at) [
        | inl later ↦ omega (arith, s.known_is, s.low)
        | inr first ↦
            let zero_at : at ≡ 0 = omega arith in
            let none : start_at vec_items chunks at ≡ 0 = ap (start_at vec_items chunks) zero_at in
            omega (arith, begin_is)
      ] in
      let last : HoldsAt P (vec_items c) (r - 1) = elim (cases_lt known r) [
        | inl more ↦ before more
        | inr all ↦
            let later : 0 < at = elim (cases_lt 0 at) [
              | inl l ↦ l
              | inr first ↦ absurd (omega (arith, s.known_is, s.low, positive))
            ] in
            let first : 0 ≡ r - 1 = omega (arith, s.known_is, s.low) in
            subst (HoldsAt P (vec_items c)) first
            (subst (λ (v : Vec T). HoldsAt P (vec_items v) 0) (sym s.is) (here later c))
      ] in
      subst (HoldsAt P (joined chunks)) (omega (arith, begin_is))
      (holds_joined chunks P at (r - 1) c s.within s.is (omega (arith, s.high)) last)

  pub found_after : (Q : T → Type 0)
      → (at + 1 < length chunks → HoldsAt (λ v. HoldsAt Q (vec_items v) 0) chunks (at + 1))
      → (r < length (vec_items c) → HoldsAt Q (vec_items c) r) → start + r < length (joined chunks)
      → HoldsAt Q (joined chunks) (start + r)
  found_after Q next after less =
      elim (cases_lt r (vec_len c)) [
        | inl inside ↦ subst (HoldsAt Q (joined chunks)) (omega (arith, begin_is))
            (holds_joined chunks Q at r c s.within s.is inside (after (omega (arith, c.ok.0))))
        | inr all ↦
            let ends : start_at vec_items chunks (at + 1) ≡ start + r =
            omega (arith, start_at-next vec_items chunks at c s.within, begin_is, same_len, s.high) in
            let more : at + 1 < length chunks = elim (cases_lt (at + 1) (length chunks)) [
              | inl m ↦ m
              | inr last ↦ absurd (omega
                  (arith, ends, start_at-end vec_items chunks (at + 1) (omega (arith, s.within))))
            ] in
            let d : Vec T = get_or chunks (at + 1) c in
            let full : 0 < vec_len d = (s.laid_out.chunks_are.held (at + 1) c more).some (omega arith) in
            subst (HoldsAt Q (joined chunks)) (omega arith)
            (holds_joined chunks Q (at + 1) 0 d more (get_or_default chunks (at + 1) c d more) full (next more c))
      ]
