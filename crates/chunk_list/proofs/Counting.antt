-- The starts counted one after another.
use Rattle.std.proofs.Common.{◌≡◌, ℕ, ◌+◌, ◌-◌, ◌*◌, ◌/◌, ◌<◌, ◌≤◌, List, [], ◌∷◌, ◌++◌, length, get_or, arith, ◌∙◌, ap}
use Rattle.std.proofs.Common.{sym, subst, inl, inr, length-append, take}
use Rattle.std.proofs.lemmas.Bool.{cases_lt}
use Rattle.std.proofs.lemmas.List.{get_or-take, get_or_append_left, length-take-le, take-take}
use Rattle.std.proofs.Math.Seq.{get_or-append_seam}
use Rattle.std.specs.Global.{Vec}
use Rattle.std.specs.List.{flat_map}
use Rattle.std.specs.Vec.{vec_items}
use Rattle.chunk_list.specs.Chunks.{begin_of, block, start_at, AreStarts}
use Rattle.chunk_list.specs.inner.Chunks.{AreStartsUpTo}
use Rattle.chunk_list.proofs.Blocks.{block_begins, block_behind, earlier_block}
use Rattle.chunk_list.proofs.Pieces.{start_at-next}

-- the first chunks are counted, and the last block begins at `base`
pub record AreCounted {T : Type 0} (chunks : List (Vec T)) (inside bases : List ℕ) (count base : ℕ) : Type 0 where
  pub long : length inside ≡ count
  pub behind : base ≤ start_at vec_items chunks count
  pub last : (b : ℕ) → b + 1 ≡ length bases → get_or bases b 0 ≡ base
  pub begins : (k : ℕ) → k < count → begin_of inside bases k ≡ start_at vec_items chunks k
  pub blocks : (b : ℕ) → b < length bases → get_or bases b 0 ≡ start_at vec_items chunks (b * block)

-- one number more at the end of a list
before : (xs : List ℕ) (x k : ℕ) → k < length xs → get_or (xs ++ x ∷ []) k 0 ≡ get_or xs k 0
before xs x k lt = get_or_append_left xs (x ∷ []) 0 k lt

at_end : (xs : List ℕ) (x k : ℕ) → k ≡ length xs → get_or (xs ++ x ∷ []) k 0 ≡ x
at_end xs x k e = ap (λ (n : ℕ). get_or (xs ++ x ∷ []) n 0) e ∙ get_or-append_seam xs x [] 0

module _ {T : Type 0} (chunks : List (Vec T)) (inside bases : List ℕ) (count base place : ℕ)
    (c : AreCounted chunks inside bases count base) (here : place ≡ start_at vec_items chunks count) where
  -- the next block begins here
  pub block_counted : length bases * block ≡ count → AreCounted chunks inside (bases ++ place ∷ []) count place
  block_counted full = record {
    long = c.long;
    behind = omega (arith, here);
    last = λ b e. at_end bases place b (omega (arith, length-append bases (place ∷ [])));
    begins = λ k lt.
        let e : get_or (bases ++ place ∷ []) (k / block) 0 ≡ get_or bases (k / block) 0 =
        before bases place (k / block) (omega arith) in
        omega (arith, e, c.begins k lt);
    blocks = λ b lt. elim (cases_lt b (length bases)) [
      | inl old ↦ before bases place b old ∙ c.blocks b old
      | inr new ↦
          let e : b ≡ length bases = omega (arith, length-append bases (place ∷ [])) in
          at_end bases place b e ∙ here
          ∙ ap (start_at vec_items chunks) (sym full ∙ ap (λ (n : ℕ). n * block) (sym e))
    ];
  }

  -- the next chunk begins here
  pub chunk_counted : (d : Vec T) → count < length chunks → count / block + 1 ≡ length bases
      → AreCounted chunks (inside ++ (place - base) ∷ []) bases (count + 1) base
  chunk_counted d lt in_last = record {
    long = omega (arith, c.long, length-append inside ((place - base) ∷ []));
    behind = omega (arith, c.behind, start_at-next vec_items chunks count d lt);
    last = c.last;
    begins = λ k less. elim (cases_lt k count) [
      | inl old ↦ omega (arith, before inside (place - base) k (omega (arith, c.long)), c.begins k old)
      | inr new ↦
          let e : count ≡ k = omega arith in
          subst (λ (n : ℕ). begin_of (inside ++ (place - base) ∷ []) bases n ≡ start_at vec_items chunks n) e
          (omega (
            arith,
            at_end inside (place - base) count (sym c.long),
            c.last (count / block) in_last,
            c.behind,
            here,
          ))
    ];
    blocks = c.blocks;
  }

-- all chunks are counted
pub all_counted : {T : Type 0} (chunks : List (Vec T)) (inside bases : List ℕ) (count base : ℕ)
    → AreCounted chunks inside bases count base → count ≡ length chunks → count ≤ length bases * block
    → length bases * block < count + block → AreStarts chunks inside bases
all_counted chunks inside bases count base c all enough no_more = record {
  as_many = omega (arith, c.long);
  enough = omega arith;
  no_more = omega arith;
  begins = λ k lt. c.begins k (omega arith);
  blocks = c.blocks;
}

-- those are counted up to which the starts are right
pub known_counted : {T : Type 0} (chunks : List (Vec T)) (inside bases first_inside first_bases : List ℕ)
    (last base : ℕ) (d : Vec T) → AreStartsUpTo chunks inside bases last → last < length chunks
    → first_inside ≡ take (last + 1) inside → first_bases ≡ take (last / block + 1) bases
    → base ≡ get_or bases (last / block) 0 → AreCounted chunks first_inside first_bases (last + 1) base
known_counted chunks inside bases first_inside first_bases last base d u lt e f is =
    let in_block : last / block < length bases = block_behind last (length bases) (omega arith) in
    let long : length first_bases ≡ last / block + 1 =
    ap length f ∙ length-take-le (last / block + 1) bases (omega arith) in
    let of_chunk = λ (k : ℕ) (less : k < last + 1).
    ap (λ (xs : List ℕ). get_or xs k 0) e ∙ get_or-take (last + 1) inside k 0 less in
    let of_block = λ (b : ℕ) (less : b < last / block + 1).
    ap (λ (xs : List ℕ). get_or xs b 0) f ∙ get_or-take (last / block + 1) bases b 0 less in
    record {
      long = ap length e ∙ length-take-le (last + 1) inside (omega arith);
      behind = omega (arith, u.begins last (omega arith), start_at-next vec_items chunks last d lt);
      last = λ b g.
          let here : b ≡ last / block = omega arith in
          of_block b (omega arith) ∙ ap (λ (n : ℕ). get_or bases n 0) here ∙ sym is;
      begins = λ k less. omega (
        arith,
        of_chunk k less,
        of_block (k / block) (omega (arith, earlier_block last k (omega arith))),
        u.begins k (omega arith),
      );
      blocks = λ b less. of_block b (omega arith) ∙ u.blocks b (block_begins last b (omega arith));
    }

-- where the chunks before the last one are as they were, the starts are right up to that one
pub still_known : {T : Type 0} (old new : List (Vec T)) (inside bases : List ℕ) (last : ℕ)
    → AreStarts old inside bases → last < length old → take last new ≡ take last old
    → AreStartsUpTo new inside bases last
still_known old new inside bases last s lt same =
    let begins : (k : ℕ) → k ≤ last → start_at vec_items old k ≡ start_at vec_items new k =
    λ k le. ap (λ (l : List (Vec _)). length (flat_map vec_items l))
    (sym (take-take k last old le) ∙ ap (take k) (sym same) ∙ take-take k last new le) in
    record {
      within = omega (arith, s.as_many);
      enough = omega (arith, s.as_many, s.enough);
      begins = λ k le. s.begins k (omega arith) ∙ begins k le;
      blocks = λ b le. s.blocks b (omega (arith, s.enough)) ∙ begins (b * block) le;
    }
