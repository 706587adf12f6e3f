-- A chunk cut in two, an empty chunk taken out, and items given to a chunk beside.
use Rattle.std.proofs.Common.{◌≡◌, ℕ, ◌+◌, ◌*◌, ◌-◌, ◌<◌, ◌≤◌, List, [], ◌∷◌, ◌++◌, length, get_or, set, take, drop}
use Rattle.std.proofs.Common.{suc, refl, sym, subst, ◌∙◌, ap, arith, inl, inr, get_or-set_same, get_or-set_other}
use Rattle.std.proofs.lemmas.Bool.{cases_lt, cases_eq}
use Rattle.std.proofs.lemmas.List.{length-set, nil_from_length}
use Rattle.std.proofs.lemmas.List.Edits.{length-insert, get_or-insert_below, get_or-insert_at, get_or-insert_above}
use Rattle.std.proofs.lemmas.List.Edits.{length-remove, get_or-remove_below, get_or-remove_above}
use Rattle.std.proofs.lemmas.List.Elements.{All-append, All-cons, All-drop, All-nil, All-set, All-take}
use Rattle.std.specs.Global.{Vec}
use Rattle.std.specs.Vec.{vec_items, vec_len, vec_capacity}
use Rattle.std.specs.List.{All, insert, remove}
use Rattle.chunk_list.specs.Chunks.{begin_of, block, full, joined, start_at, AreChunks, AreLaidOut}
use Rattle.chunk_list.specs.inner.Chunks.{AreChunksBut}
use Rattle.chunk_list.specs.Chunks.{CanTurn, IsHeld, IsSpare, IsWide}
use Rattle.chunk_list.specs.inner.Edits.{AreTurned, IsGiven}
use Rattle.chunk_list.proofs.Pieces.{gone-joined}

module _ {T : Type 0} (old : List (Vec T)) (at : ℕ) (b : AreChunksBut old at) where
  -- a chunk that was there before is in its place, or later
  other : (k j : ℕ) {x : Vec T} (d : Vec T) → j < length old → (j ≡ at → ⊥) → (0 < k → 0 < j) → x ≡ get_or old j d
      → IsHeld k x
  other k j d lt ne later is =
      let h = b.others j d lt ne
      in record {
        short = omega (arith, ap vec_len is);
        some =
            λ more. omega (arith, ap vec_len is, h.some (later more));
      }

  -- the chunk at `at` has given some of its items to one that came in behind it
  pub cut_chunks : (lower upper : Vec T) → IsWide lower → IsWide upper → IsHeld at lower → IsHeld (at + 1) upper
      → AreChunks (insert (set old at lower) (at + 1) upper)
  cut_chunks lower upper wide_lower wide_upper at_lower at_upper =
      let mid : List (Vec T) = set old at lower in
      let fits : at + 1 ≤ length mid = omega (arith, b.within, length-set old at lower) in
      let wide : All IsWide mid = All-set IsWide old at lower wide_lower b.wide in
      record {
        wide =
            All-append IsWide (take (at + 1) mid) (upper ∷ drop (at + 1) mid) (All-take IsWide (at + 1) mid wide)
            (All-cons IsWide upper (drop (at + 1) mid) wide_upper (All-drop IsWide (at + 1) mid wide));
        held = λ k d lt. elim (cases_eq k at) [
          | inl e ↦
              subst (λ (m : ℕ). IsHeld m (get_or (insert mid (at + 1) upper) m d)) (sym e)
              (subst (IsHeld at) (sym (get_or-insert_below mid (at + 1) upper d at (omega arith) fits
              ∙ get_or-set_same old at lower d b.within)) at_lower)
          | inr ne ↦ elim (cases_eq k (at + 1)) [
            | inl e ↦
                subst (λ (m : ℕ). IsHeld m (get_or (insert mid (at + 1) upper) m d)) (sym e)
                (subst (IsHeld (at + 1)) (sym (get_or-insert_at mid (at + 1) upper d fits)) at_upper)
            | inr ne_next ↦ elim (cases_lt k at) [
              | inl low ↦ other k k d (omega (arith, b.within)) ne (λ more. more)
                  (get_or-insert_below mid (at + 1) upper d k (omega arith) fits ∙ get_or-set_other old at k lower d ne)
              | inr high ↦
                  let back : k - 1 + 1 ≡ k = omega arith in
                  other k (k - 1) d (omega (arith, length-insert mid (at + 1) upper fits, length-set old at lower))
                  (λ e. omega arith) (λ more. omega arith)
                  (ap (λ (m : ℕ). get_or (insert mid (at + 1) upper) m d) (sym back)
                  ∙ get_or-insert_above mid (at + 1) upper d (k - 1) (omega arith) fits
                  ∙ get_or-set_other old at (k - 1) lower d (λ e. omega arith))
            ]
          ]
        ];
      }

  -- the chunk at `at`, which is empty and not the first, taken out
  pub out_chunks : (new : List (Vec T)) (d : Vec T) → 0 < at → vec_len (get_or old at d) ≡ 0 → new ≡ remove old at
      → (joined new ≡ joined old) × AreChunks new
  out_chunks new d later empty is =
      let none : vec_items (get_or old at d) ≡ [] =
      nil_from_length (vec_items (get_or old at d)) (omega (arith, empty, (get_or old at d).ok.0)) in
      subst (λ (l : List (Vec T)). (joined l ≡ joined old) × AreChunks l) (sym is) (
        gone-joined vec_items old at d b.within none,
        record {
          wide = All-append IsWide (take at old) (drop (suc at) old) (All-take IsWide at old b.wide)
              (All-drop IsWide (suc at) old b.wide);
          held = λ k d lt. elim (cases_lt k at) [
            | inl low ↦ other k k d (omega (arith, b.within)) (λ e. omega arith) (λ more. more)
                (get_or-remove_below old at d k low b.within)
            | inr high ↦ other k (k + 1) d (omega (arith, length-remove old at b.within)) (λ e. omega arith)
                (λ more. omega arith) (get_or-remove_above old at d k high b.within)
          ];
        },
      )

-- items given on the way from a chunk with too many to one with `count` places free
module _ {T : Type 0} (old new : List (Vec T)) (at from to count : ℕ) (b : AreChunksBut old at)
    (g : IsGiven old from to count new) (there : from < length old)
    (some : 0 < count) (few : count + count ≤ full) (free : (d : Vec T) → vec_len (get_or old to d) + count ≤ full)
    (tight : (d : Vec T) → full < vec_len (get_or old from d) + count)
    (not_at : to ≡ at → ⊥)
  where
    pub given_on : AreChunksBut new at
    given_on = record {
      within = omega (arith, b.within, g.long);
      wide = g.wide;
      top = λ d. elim (cases_eq at from) [
        | inl e ↦ omega (
          arith,
          subst (λ (m : ℕ). vec_len (get_or new m d) + count ≡ vec_len (get_or old m d)) (sym e)
              (g.from_len d),
          b.top d,
        )
        | inr ne ↦ omega (arith, ap vec_len (g.others at d ne (λ e. not_at (sym e))), b.top d)
      ];
      others = λ k d lt ne. elim (cases_eq k from) [
        | inl e ↦
            let h = b.others from d there (λ x. ne (e ∙ x)) in
            subst (λ (m : ℕ). IsHeld m (get_or new m d)) (sym e)
            (record { short = omega (arith, g.from_len d); some = λ more. omega (arith, g.from_len d, tight d) })
        | inr ne_from ↦ elim (cases_eq k to) [
          | inl e ↦ subst (λ (m : ℕ). IsHeld m (get_or new m d)) (sym e)
              (record { short = omega (arith, g.to_len d, free d); some = λ more. omega (arith, g.to_len d) })
          | inr ne_to ↦ subst (IsHeld k) (sym (g.others k d ne_from ne_to)) (b.others k d (omega (arith, g.long)) ne)
        ]
      ];
    }

-- equal lists are laid out alike
pub same_laid_out : {T : Type 0} {chunks new_chunks : List (Vec T)} {inside new_inside bases new_bases : List ℕ}
    → new_chunks ≡ chunks → new_inside ≡ inside → new_bases ≡ bases → AreLaidOut chunks inside bases
    → AreLaidOut new_chunks new_inside new_bases
same_laid_out {chunks} {new_chunks} {inside} {new_inside} {bases} {new_bases} e f h l =
    subst (λ (cs : List (Vec _)). AreLaidOut cs new_inside new_bases) (sym e)
    (subst (λ (ss : List ℕ). AreLaidOut chunks ss new_bases) (sym f)
    (subst (λ (bs : List ℕ). AreLaidOut chunks inside bs) (sym h) l))

-- a spare chunk alone is laid out as an empty list
pub only_spare : {T : Type 0} (first : Vec T) → IsSpare first → (joined (first ∷ []) ≡ [])
    × AreLaidOut (first ∷ []) (0 ∷ []) (0 ∷ [])
only_spare first s =
    let none : vec_items first ≡ [] = nil_from_length (vec_items first) (omega (arith, s.empty, first.ok.0)) in (
      ap (λ (l : List _). l ++ []) none,
      record {
        chunks_are = record {
          wide = All-cons IsWide first [] s.wide (All-nil IsWide);
          held = λ k d lt.
              let e : 0 ≡ k = omega arith in
              subst (λ (n : ℕ). IsHeld n (get_or (first ∷ []) n d)) e
              (record { short = omega (arith, s.empty); some = λ more. absurd (omega arith) });
        };
        starts_are = record {
          as_many = refl;
          enough = omega arith;
          no_more = omega arith;
          begins = λ k lt. let e : 0 ≡ k = omega arith
              in subst (λ n. begin_of (0 ∷ []) (0 ∷ []) n ≡ start_at vec_items (first ∷ []) n) e refl;
          blocks = λ b lt. let e : 0 ≡ b = omega arith
              in subst (λ n. get_or (0 ∷ []) n 0 ≡ start_at vec_items (first ∷ []) (n * block)) e refl;
        };
      },
    )

-- the chunks can turn that are left where some came in or went out, in the memory that there was
pub can_turn : {T : Type 0} {chunks mid spare new_chunks new_spare : Vec (Vec T)}
    {inside new_inside bases new_bases : Vec ℕ}
    → CanTurn chunks spare inside bases → vec_len mid ≡ vec_len chunks → vec_capacity mid ≡ vec_capacity chunks
    → AreTurned mid spare new_chunks new_spare → vec_capacity new_inside ≡ vec_capacity inside
    → vec_capacity new_bases ≡ vec_capacity bases
    → (0 < vec_len new_spare → 0 < vec_len new_chunks) → CanTurn new_chunks new_spare new_inside new_bases
can_turn t len capacity turned starts_capacity blocks_capacity first = record {
  each = turned.each;
  chunks_fit = omega arith;
  spare_fit = omega arith;
  starts_fit = omega arith;
  blocks_fit = omega arith;
  first = first;
}

pub all_stay : {T : Type 0} {chunks mid spare : Vec (Vec T)} {inside bases : Vec ℕ} → CanTurn chunks spare inside bases
    → AreTurned mid spare mid spare
all_stay t = record { each = t.each; fewer = omega arith; chunks_capacity = refl; spare_capacity = refl }
