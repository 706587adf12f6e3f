-- The chunk that a place falls into, and the place inside it.
use Rattle.std.proofs.Common.{◌≡◌, ℕ, ◌+◌, ◌-◌, ◌<◌, ◌≤◌, ◌⊎◌, List, [], ◌∷◌, length, get_or, refl, sym, ◌∙◌, ap, arith}
use Rattle.std.proofs.Common.{inl, inr}
use Rattle.std.proofs.lemmas.Bool.{cases_lt}
use Rattle.std.proofs.lemmas.List.Concat.{get_or-flat_map}
use Rattle.std.proofs.lemmas.List.Folds.{length-flat_map-take}
use Rattle.std.proofs.lemmas.Option.{slice_get_read}
use Rattle.std.specs.Global.{Vec}
use Rattle.std.specs.Vec.{vec_items, vec_len}
use Rattle.std.specs.Prelude.{slice_get, Some}
use Rattle.chunk_list.specs.Chunks.{start_at, joined}
use Rattle.chunk_list.specs.inner.Chunks.{IsAt}
use Rattle.chunk_list.proofs.Pieces.{start_at-next, start_at-end}

-- an item of a chunk is one of the list
pub item_of_chunk : {T : Type 0} (chunks : List (Vec T)) (at place : ℕ) (c : Vec T) (x : T) → at < length chunks
    → c ≡ get_or chunks at c → place < vec_len c → x ≡ get_or (vec_items c) place x
    → Some x ≡ slice_get (joined chunks) (start_at vec_items chunks at + place)
item_of_chunk chunks at place c x lt c_is inside x_is =
    let within : place < length (vec_items (get_or chunks at c)) =
    omega (arith, ap vec_len c_is, (get_or chunks at c).ok.0) in
    sym (slice_get_read (joined chunks) (length (joined chunks)) (start_at vec_items chunks at + place) x refl
    (omega (arith, length-flat_map-take vec_items chunks at c lt))
    (x_is ∙ ap (λ (v : Vec _). get_or (vec_items v) place x) c_is
    ∙ sym (get_or-flat_map vec_items chunks at place c x lt within)))

-- a list with items has a chunk
pub some_chunk : {T : Type 0} (chunks : List (Vec T)) → 0 < length (joined chunks) → 0 < length chunks
some_chunk [] some = some
some_chunk (c ∷ chunks) some = omega arith

-- a place from the start of a chunk on, and before the start of the next one
pub is_at : {T : Type 0} (chunks : List (Vec T)) (at start place : ℕ) → at < length chunks
    → start ≡ start_at vec_items chunks at → start ≤ place
    → (at + 1 < length chunks → place < start_at vec_items chunks (at + 1)) → place ≤ length (joined chunks)
    → IsAt chunks place at (place - start)
is_at chunks at start place within begin low high le =
    let ends : (d : Vec _) → start_at vec_items chunks (at + 1) ≡ start + vec_len (get_or chunks at d) =
    λ d. omega (arith, begin, start_at-next vec_items chunks at d within, (get_or chunks at d).ok.0) in
    let behind : (d : Vec _) → (place < start + vec_len (get_or chunks at d))
    ⊎ (start + vec_len (get_or chunks at d) ≡ length (joined chunks)) = λ d. elim (cases_lt (at + 1) (length chunks)) [
      | inl more ↦ inl (omega (arith, ends d, high more))
      | inr last ↦ inr (omega (arith, ends d, start_at-end vec_items chunks (at + 1) (omega (arith, within))))
    ] in
    record {
      within = within;
      is = omega (arith, begin);
      up_to = λ d. elim (behind d) [ inl b ↦ omega arith | inr e ↦ omega arith ];
      before = λ lt d. elim (behind d) [ inl b ↦ omega arith | inr e ↦ omega arith ];
    }
