-- One chunk changed among those that were laid out.
use Rattle.std.proofs.Common.{◌≡◌, ℕ, ◌+◌, ◌*◌, ◌/◌, ◌<◌, ◌≤◌, List, ◌++◌, length, get_or, set, refl, sym, subst}
use Rattle.std.proofs.Common.{◌∙◌, ap, arith, inl, inr, get_or-set_same, get_or-set_other}
use Rattle.std.proofs.lemmas.Bool.{cases_lt, cases_eq}
use Rattle.std.proofs.lemmas.List.{get_or_read, get_or_read_under, length-set, set-append_left, set-append_right}
use Rattle.std.proofs.lemmas.List.Concat.{get_or-flat_map}
use Rattle.std.proofs.lemmas.List.Elements.{All-set}
use Rattle.std.proofs.lemmas.List.Edits.{insert-append_left, insert-append_right, remove-append_left}
use Rattle.std.proofs.lemmas.List.Edits.{remove-append_right}
use Rattle.std.specs.Global.{Vec}
use Rattle.std.specs.Vec.{vec_items, vec_len, vec_capacity}
use Rattle.std.specs.List.{insert, remove}
use Rattle.chunk_list.specs.Chunks.{begin_of, block, full, joined, start_at, AreChunks, AreLaidOut}
use Rattle.chunk_list.specs.inner.Chunks.{AreChunksBut}
use Rattle.chunk_list.specs.Chunks.{AreStarts, IsHeld, IsWide}
use Rattle.chunk_list.specs.inner.Chunks.{IsAt}
use Rattle.chunk_list.proofs.Blocks.{block_behind, block_below}
use Rattle.chunk_list.proofs.Pieces.{start_at-set_low, start_at-set_high, edit-joined}

-- the chunk that was left out is like the others
pub settled : {T : Type 0} (chunks : List (Vec T)) (at : ℕ) → AreChunksBut chunks at
    → ((d : Vec T) → IsHeld at (get_or chunks at d)) → AreChunks chunks
settled chunks at b here = record {
  wide = b.wide;
  held = λ k d lt. elim (cases_eq k at) [
    | inl e ↦ subst (λ (m : ℕ). IsHeld m (get_or chunks m d)) (sym e) (here d)
    | inr ne ↦ b.others k d lt ne
  ];
}

-- the same where the chunk was looked at, and has an item
pub settled_some : {T : Type 0} (chunks : List (Vec T)) (at : ℕ) (chunk : Vec T) → AreChunksBut chunks at
    → chunk ≡ get_or chunks at chunk → (vec_len chunk ≡ 0 → ⊥)
    → ((d : Vec T) → vec_len (get_or chunks at d) ≤ full) → AreChunks chunks
settled_some chunks at chunk b looked some short = record {
  wide = b.wide;
  held = λ k d lt. elim (cases_eq k at) [
    | inl e ↦ subst (λ (m : ℕ). IsHeld m (get_or chunks m d)) (sym e) (record {
      short = short d;
      some = λ later. omega (
        arith,
        some,
        ap vec_len (get_or_read_under chunks at (length chunks) chunk d looked
            (subst (λ (m : ℕ). m < length chunks) e lt) refl),
      );
    })
    | inr ne ↦ b.others k d lt ne
  ];
}

-- the content of the chunk that a place falls into becomes another one in the same memory
pub record IsEdit {T : Type 0} (chunks : List (Vec T)) (inner bases : List ℕ) (p i inside : ℕ)
    (old new : Vec T) : Type 0 where
  pub laid_out : AreLaidOut chunks inner bases
  pub is_at : IsAt chunks p i inside
  pub old_is : old ≡ get_or chunks i old
  pub capacity : vec_capacity new ≡ vec_capacity old

pub edit : {T : Type 0} {chunks : List (Vec T)} {inner bases : List ℕ} {p i inside : ℕ} {old : Vec T} (new : Vec T)
    → AreLaidOut chunks inner bases → IsAt chunks p i inside
    → old ≡ get_or chunks i old → vec_capacity new ≡ vec_capacity old → IsEdit chunks inner bases p i inside old new
edit new laid_out is_at old_is capacity =
    record { laid_out = laid_out; is_at = is_at; old_is = old_is; capacity = capacity }

module _ {T : Type 0} {chunks : List (Vec T)} {inner bases : List ℕ} {p i inside : ℕ} {old new : Vec T}
    (e : IsEdit chunks inner bases p i inside old new) where
  l : AreLaidOut chunks inner bases
  l = e.laid_out

  there : i < length chunks
  there = e.is_at.within

  pub same_len : (d : Vec T) → vec_len (get_or chunks i d) ≡ vec_len old
  same_len d = sym (ap vec_len (get_or_read chunks i old there e.old_is d))

  pub new_at : (d : Vec T) → get_or (set chunks i new) i d ≡ new
  new_at d = get_or-set_same chunks i new d there

  same_items : vec_items old ≡ vec_items (get_or chunks i old)
  same_items = ap vec_items e.old_is

  pub edited : vec_len new ≤ full + 1 → AreChunksBut (set chunks i new) i
  edited fits = record {
    within = omega (arith, there, length-set chunks i new);
    wide = All-set IsWide chunks i new
        (omega (arith, e.capacity, ap vec_capacity e.old_is, l.chunks_are.wide i old there)) l.chunks_are.wide;
    top = λ d. omega (arith, ap vec_len (new_at d));
    others = λ k d lt ne. subst (IsHeld k) (sym (get_or-set_other chunks i k new d ne))
        (l.chunks_are.held k d (omega (arith, length-set chunks i new)));
  }

  -- the later starts move as far as the chunk is longer or shorter
  module _ (to to_bases : List ℕ) where
    -- a chunk at `k`, or a block that would begin there, begins where it did, or that much later
    later_start : (k was now : ℕ) → was ≡ start_at vec_items chunks k → (k ≤ i → now ≡ was)
        → (i < k → now + vec_len old ≡ was + vec_len new) → now ≡ start_at vec_items (set chunks i new) k
    later_start k was now is low high = elim (cases_lt i k) [
      | inl gt ↦
          omega (
            arith,
            high gt,
            is,
            new.ok.0,
            old.ok.0,
            ap length same_items,
            start_at-set_high vec_items chunks i k new old there gt,
          )
      | inr at ↦ low at ∙ is ∙ sym (start_at-set_low vec_items chunks i k new at)
    ]

    pub starts_with : length to ≡ length inner → length to_bases ≡ length bases
        → ((k : ℕ) → k ≤ i → begin_of to to_bases k ≡ begin_of inner bases k)
        → ((k : ℕ) → i < k → k < length inner
        → begin_of to to_bases k + vec_len old ≡ begin_of inner bases k + vec_len new)
        → ((b : ℕ) → b ≤ i / block → get_or to_bases b 0 ≡ get_or bases b 0)
        → ((b : ℕ) → i / block < b → b < length bases
        → get_or to_bases b 0 + vec_len old ≡ get_or bases b 0 + vec_len new)
        → AreStarts (set chunks i new) to to_bases
    starts_with long blocks low high blocks_low blocks_high =
        let s = l.starts_are in
        let same : length (set chunks i new) ≡ length chunks = length-set chunks i new in
        record {
          as_many = omega (arith, long, s.as_many, same);
          enough = omega (arith, blocks, s.enough, same);
          no_more = omega (arith, blocks, s.no_more, same);
          begins = λ k lt.
              let in_old : k < length chunks = omega (arith, same) in
              later_start k (begin_of inner bases k) (begin_of to to_bases k) (s.begins k in_old) (low k)
              (λ gt. high k gt (omega (arith, s.as_many)));
          blocks = λ b lt.
              let in_old : b < length bases = omega (arith, blocks) in
              later_start (b * block) (get_or bases b 0) (get_or to_bases b 0) (s.blocks b in_old)
              (λ le. blocks_low b (block_below i b le)) (λ gt. blocks_high b (block_behind i b gt) in_old);
        }

  -- an edit of the chunk is that edit of the list
  edited_joined : (E : List T → ℕ → List T) (W : ℕ → ℕ → Type 0)
      → ((xs ys : List T) (n : ℕ) → W n (length xs) → E (xs ++ ys) n ≡ E xs n ++ ys)
      → ((xs ys : List T) (n : ℕ) → E (xs ++ ys) (length xs + n) ≡ xs ++ E ys n) → W inside (length (vec_items old))
      → vec_items new ≡ E (vec_items old) inside
      → joined (set chunks i new) ≡ E (joined chunks) p
  edited_joined E W left right w is =
      edit-joined vec_items E W left right chunks i inside new old there
      (subst (λ (xs : List T). W inside (length xs)) same_items w) (is ∙ ap (λ (xs : List T). E xs inside) same_items)
      ∙ ap (E (joined chunks)) e.is_at.is

  pub put_joined : (x : T) → vec_items new ≡ insert (vec_items old) inside x
      → joined (set chunks i new) ≡ insert (joined chunks) p x
  put_joined x =
      edited_joined (λ l n. insert l n x) (λ n m. n ≤ m) (λ a b n. insert-append_left a b n x)
      (λ a b n. insert-append_right a b (length a) (length a + n) x refl (omega arith)
      ∙ ap (λ (m : ℕ). a ++ insert b m x) (omega arith))
      (omega (arith, e.is_at.up_to old, same_len old, old.ok.0))

  module _ (lt : p < length (joined chunks)) where
    held : inside < length (vec_items old)
    held = omega (arith, e.is_at.before lt old, same_len old, old.ok.0)

    pub value_here : (x : T) → x ≡ get_or (vec_items old) inside x → x ≡ get_or (joined chunks) p x
    value_here x is =
        is ∙ ap (λ (xs : List T). get_or xs inside x) same_items
        ∙ sym (get_or-flat_map vec_items chunks i inside old x there (omega (arith, held, ap length same_items)))
        ∙ ap (λ (n : ℕ). get_or (joined chunks) n x) e.is_at.is

    pub take_joined : vec_items new ≡ remove (vec_items old) inside
        → joined (set chunks i new) ≡ remove (joined chunks) p
    take_joined =
        edited_joined remove (λ n m. n < m) remove-append_left
        (λ a b n. remove-append_right a b (length a) (length a + n) refl (omega arith)
        ∙ ap (λ (m : ℕ). a ++ remove b m) (omega arith)) held

    pub exchange_joined : (x : T) → vec_items new ≡ set (vec_items old) inside x
        → joined (set chunks i new) ≡ set (joined chunks) p x
    exchange_joined x =
        edited_joined (λ l n. set l n x) (λ n m. n < m) (λ a b n. set-append_left a b n x)
        (λ a b n. set-append_right a b (length a) (length a + n) x refl (omega arith)
        ∙ ap (λ (m : ℕ). a ++ set b m x) (omega arith)) held
