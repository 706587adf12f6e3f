-- Where chunks begin when one of them has given items to another.
use Rattle.std.proofs.Common.{◌≡◌, ℕ, ◌+◌, ◌*◌, ◌/◌, ◌<◌, ◌≤◌, List, [], ◌∷◌, length, get_or, zero, suc, refl, sym}
use Rattle.std.proofs.Common.{subst, ap, arith, add-one, inl, inr}
use Rattle.std.proofs.lemmas.Bool.{cases_eq, cases_lt}
use Rattle.std.specs.Global.{Vec}
use Rattle.std.specs.Vec.{vec_items, vec_len}
use Rattle.chunk_list.specs.Chunks.{begin_of, block, joined, start_at, AreStarts}
use Rattle.chunk_list.specs.inner.Edits.{IsGiven}
use Rattle.chunk_list.proofs.Blocks.{block_behind, block_below}
use Rattle.chunk_list.proofs.Pieces.{start_at-later, start_at-most, start_at-next}

-- the chunk at `k` begins where it did, or so much earlier or later
record Begins (from to count k was now : ℕ) : Type 0 where
  before : k ≤ from → k ≤ to → now ≡ was
  earlier : from < k → k ≤ to → now + count ≡ was
  later : k ≤ from → to < k → now ≡ was + count
  behind : from < k → to < k → now ≡ was

module _ {T : Type 0} (old new : List (Vec T)) (from to count : ℕ) (apart : from ≡ to → ⊥)
    (g : IsGiven old from to count new) where
  -- the next chunk begins where this one ends
  next : (k was now : ℕ) (d : Vec T) → Begins from to count k was now
      → Begins from to count (k + 1) (was + vec_len (get_or old k d)) (now + vec_len (get_or new k d))
  next k was now d b = elim (cases_eq k from) [
    | inl e ↦
        let held : vec_len (get_or new k d) + count ≡ vec_len (get_or old k d) =
        subst (λ (m : ℕ). vec_len (get_or new m d) + count ≡ vec_len (get_or old m d)) (sym e) (g.from_len d) in
        record {
          before = λ le le_to. absurd (omega arith);
          earlier = λ gt le_to. omega (arith, b.before (omega arith) (omega arith), held);
          later = λ le gt. absurd (omega arith);
          behind = λ gt gt_to. omega (arith, b.later (omega arith) (omega arith), held);
        }
    | inr ne ↦ elim (cases_eq k to) [
      | inl e ↦
          let held : vec_len (get_or new k d) ≡ vec_len (get_or old k d) + count =
          subst (λ (m : ℕ). vec_len (get_or new m d) ≡ vec_len (get_or old m d) + count) (sym e) (g.to_len d) in
          record {
            before = λ le le_to. absurd (omega arith);
            earlier = λ gt le_to. absurd (omega arith);
            later = λ le gt. omega (arith, b.before (omega arith) (omega arith), held);
            behind = λ gt gt_to. omega (arith, b.earlier (omega arith) (omega arith), held);
          }
      | inr ne_to ↦
          let same = ap vec_len (g.others k d ne ne_to) in
          record {
            before = λ le le_to. omega (arith, b.before (omega arith) (omega arith), same);
            earlier = λ gt le_to. omega (arith, b.earlier (omega arith) (omega arith), same);
            later = λ le gt. omega (arith, b.later (omega arith) (omega arith), same);
            behind = λ gt gt_to. omega (arith, b.behind (omega arith) (omega arith), same);
          }
    ]
  ]

  begin : (k : ℕ) (d : Vec T) → k ≤ length old
      → Begins from to count k (start_at vec_items old k) (start_at vec_items new k)
  begin zero d le = record {
    before = λ le le_to. refl;
    earlier = λ gt le_to. absurd (omega arith);
    later = λ le gt. absurd (omega arith);
    behind = λ gt gt_to. refl;
  }
  begin (suc k) d le =
      let was : start_at vec_items old (suc k) ≡ start_at vec_items old k + vec_len (get_or old k d) =
      omega (
        arith,
        ap (start_at vec_items old) (sym (add-one k)),
        start_at-next vec_items old k d (omega arith),
        (get_or old k d).ok.0,
      ) in
      let now : start_at vec_items new (suc k) ≡ start_at vec_items new k + vec_len (get_or new k d) =
      omega (
        arith,
        ap (start_at vec_items new) (sym (add-one k)),
        start_at-next vec_items new k d (omega (arith, g.long)),
        (get_or new k d).ok.0,
      ) in
      let b = next k (start_at vec_items old k) (start_at vec_items new k) d (begin k d (omega arith)) in
      record {
        before = λ low low_to. omega (arith, was, now, b.before (omega arith) (omega arith));
        earlier = λ gt low_to. omega (arith, was, now, b.earlier (omega arith) (omega arith));
        later = λ low gt. omega (arith, was, now, b.later (omega arith) (omega arith));
        behind = λ gt gt_to. omega (arith, was, now, b.behind (omega arith) (omega arith));
      }

  -- the starts moved back behind the giver, and on behind the taker
  module _ (inner bases mid mid_bases last last_bases : List ℕ) (s : AreStarts old inner bases) (d : Vec T)
      (mid_long : length mid ≡ length inner) (mid_blocks : length mid_bases ≡ length bases)
      (low : (k : ℕ) → k ≤ from → begin_of mid mid_bases k ≡ begin_of inner bases k)
      (high : (k : ℕ) → from < k → k < length inner → begin_of mid mid_bases k + count ≡ begin_of inner bases k + 0)
      (blocks_low : (b : ℕ) → b ≤ from / block → get_or mid_bases b 0 ≡ get_or bases b 0)
      (blocks_high : (b : ℕ) → from / block < b → b < length bases
      → get_or mid_bases b 0 + count ≡ get_or bases b 0 + 0)
      (last_long : length last ≡ length mid) (last_blocks : length last_bases ≡ length mid_bases)
      (next_low : (k : ℕ) → k ≤ to → begin_of last last_bases k ≡ begin_of mid mid_bases k)
      (next_high : (k : ℕ) → to < k → k < length mid
      → begin_of last last_bases k + 0 ≡ begin_of mid mid_bases k + count)
      (next_blocks_low : (b : ℕ) → b ≤ to / block → get_or last_bases b 0 ≡ get_or mid_bases b 0)
      (next_blocks_high : (b : ℕ) → to / block < b → b < length mid_bases
      → get_or last_bases b 0 + 0 ≡ get_or mid_bases b 0 + count)
    where
      -- a chunk at `k`, or a block that begins there, begins where it should
      there : (k was mid now : ℕ) → k ≤ length old → was ≡ start_at vec_items old k → (k ≤ from → mid ≡ was)
          → (from < k → mid + count ≡ was) → (k ≤ to → now ≡ mid) → (to < k → now ≡ mid + count)
          → now ≡ start_at vec_items new k
      there k was mid now le is a b e f =
          let h = begin k d le in elim (cases_lt from k) [
            | inl gt ↦ elim (cases_lt to k) [
              | inl gt_to ↦ omega (arith, is, b gt, f gt_to, h.behind gt gt_to)
              | inr le_to ↦ omega (arith, is, b gt, e le_to, h.earlier gt le_to)
            ]
            | inr le_from ↦ elim (cases_lt to k) [
              | inl gt_to ↦ omega (arith, is, a le_from, f gt_to, h.later le_from gt_to)
              | inr le_to ↦ omega (arith, is, a le_from, e le_to, h.before le_from le_to)
            ]
          ]

      pub carried : AreStarts new last last_bases
      carried = record {
        as_many = omega (arith, last_long, mid_long, s.as_many, g.long);
        enough = omega (arith, last_blocks, mid_blocks, s.enough, g.long);
        no_more = omega (arith, last_blocks, mid_blocks, s.no_more, g.long);
        begins = λ k lt.
            let in_old : k < length inner = omega (arith, g.long, s.as_many) in
            there k (begin_of inner bases k) (begin_of mid mid_bases k) (begin_of last last_bases k)
            (omega (arith, in_old, s.as_many)) (s.begins k (omega (arith, in_old, s.as_many))) (low k)
            (λ gt. omega (arith, high k gt in_old)) (next_low k)
            (λ gt. omega (arith, next_high k gt (omega (arith, in_old, mid_long))));
        blocks = λ b lt.
            let in_old : b < length bases = omega (arith, last_blocks, mid_blocks) in
            there (b * block) (get_or bases b 0) (get_or mid_bases b 0) (get_or last_bases b 0)
            (omega (arith, in_old, s.no_more)) (s.blocks b in_old) (λ le. blocks_low b (block_below from b le))
            (λ gt. omega (arith, blocks_high b (block_behind from b gt) in_old))
            (λ le. next_blocks_low b (block_below to b le))
            (λ gt. omega (arith, next_blocks_high b (block_behind to b gt) (omega (arith, in_old, mid_blocks))));
      }

-- behind the chunks up to one that holds so many items there is place for so many more before the end
pub place_before : {T : Type 0} (chunks : List (Vec T)) (from count k : ℕ) (d : Vec T) → from < length chunks
    → count ≤ vec_len (get_or chunks from d) → k ≤ from
    → start_at vec_items chunks k + count ≤ length (joined chunks)
place_before chunks from count k d lt many le =
    let end : start_at vec_items chunks from + count ≤ length (joined chunks) =
    omega (
      arith,
      start_at-next vec_items chunks from d lt,
      start_at-most vec_items chunks (from + 1),
      (get_or chunks from d).ok.0,
    ) in
    elim (cases_eq k from) [
      | inl e ↦ subst (λ (m : ℕ). start_at vec_items chunks m + count ≤ length (joined chunks)) (sym e) end
      | inr ne ↦ omega (
        arith,
        start_at-later vec_items chunks k from d (omega arith) (omega arith),
        end,
      )
    ]

-- where there is a place there is an element
pub any_of : {X : Type 0} (xs : List X) (k : ℕ) → k < length xs → X
any_of [] k lt = absurd (omega arith)
any_of (x ∷ xs) k lt = x

-- what begins behind a chunk begins behind the items that it gives
pub behind_given : {T : Type 0} (chunks : List (Vec T)) (from count k : ℕ) (d : Vec T) → from < length chunks
    → count ≤ vec_len (get_or chunks from d) → from < k
    → start_at vec_items chunks from + count ≤ start_at vec_items chunks k
behind_given chunks from count k d lt many gt =
    omega (arith, start_at-later vec_items chunks from k d lt gt, (get_or chunks from d).ok.0)
