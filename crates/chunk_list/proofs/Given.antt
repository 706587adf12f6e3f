-- Items moved between two chunks that stand side by side.
use Rattle.std.proofs.Common.{◌≡◌, ℕ, ◌+◌, ◌<◌, ◌⊎◌, List, ◌++◌, length, get_or, set, suc, sym, subst, ◌∙◌, ap, arith}
use Rattle.std.proofs.Common.{add-one, inl, inr, get_or-set_same, get_or-set_other}
use Rattle.std.proofs.lemmas.List.{get_or_read, length-set, set_comm, set-set}
use Rattle.std.proofs.lemmas.List.Elements.{All-set}
use Rattle.std.specs.List.{All}
use Rattle.std.specs.Global.{Vec}
use Rattle.std.specs.Vec.{vec_items, vec_len, vec_capacity}
use Rattle.chunk_list.specs.Chunks.{joined, IsWide}
use Rattle.chunk_list.specs.inner.Edits.{IsGiven}
use Rattle.chunk_list.proofs.Pieces.{parted-joined}

-- two chunks, one behind the other, that hold what they held
pub same_joined : {T : Type 0} (chunks : List (Vec T)) (i : ℕ) (lower upper a b : Vec T) → i + 1 < length chunks
    → a ≡ get_or chunks i a → b ≡ get_or chunks (i + 1) b
    → vec_items lower ++ vec_items upper ≡ vec_items a ++ vec_items b
    → joined (set (set chunks i lower) (i + 1) upper) ≡ joined chunks
same_joined chunks i lower upper a b within a_is b_is items =
    let same_b : get_or chunks (suc i) a ≡ b = ap (λ (n : ℕ). get_or chunks n a) (sym (add-one i))
    ∙ sym (get_or_read chunks (i + 1) b within b_is a) in
    ap (λ (n : ℕ). joined (set (set chunks i lower) n upper)) (add-one i)
    ∙ parted-joined vec_items chunks i lower upper a (omega arith)
    (items ∙ ap (λ (v : Vec _). vec_items v ++ vec_items b) a_is
    ∙ ap (λ (v : Vec _). vec_items (get_or chunks i a) ++ vec_items v) (sym same_b))

module _ {T : Type 0} (chunks : List (Vec T)) (from to count : ℕ) (hole giver taker a b : Vec T)
    (within : from < length chunks) (within_to : to < length chunks) (all : All IsWide chunks)
    (a_is : a ≡ get_or chunks from a) (b_is : b ≡ get_or chunks to b) (giver_len : vec_len giver + count ≡ vec_len a)
    (taker_len : vec_len taker ≡ vec_len b + count)
    (giver_capacity : vec_capacity giver ≡ vec_capacity a) (taker_capacity : vec_capacity taker ≡ vec_capacity b)
    (beside : ((to ≡ from + 1) × (vec_items giver ++ vec_items taker ≡ vec_items a ++ vec_items b))
    ⊎ ((from ≡ to + 1) × (vec_items taker ++ vec_items giver ≡ vec_items b ++ vec_items a)))
  where
    abbrev new : List (Vec T)
    new = set (set chunks to taker) from giver

    apart : from ≡ to → ⊥
    apart e = elim beside [ inl up ↦ omega (arith, up.0) | inr down ↦ omega (arith, down.0) ]

    at_from : (d : Vec T) → get_or new from d ≡ giver
    at_from d = get_or-set_same (set chunks to taker) from giver d (omega (arith, length-set chunks to taker))

    at_to : (d : Vec T) → get_or new to d ≡ taker
    at_to d = get_or-set_other (set chunks to taker) from to giver d (λ e. apart (sym e))
        ∙ get_or-set_same chunks to taker d within_to

    others : (k : ℕ) (d : Vec T) → (k ≡ from → ⊥) → (k ≡ to → ⊥) → get_or new k d ≡ get_or chunks k d
    others k d ne ne_to = get_or-set_other (set chunks to taker) from k giver d ne
        ∙ get_or-set_other chunks to k taker d ne_to

    long : length new ≡ length chunks
    long = length-set (set chunks to taker) from giver ∙ length-set chunks to taker

    same : joined new ≡ joined chunks
    same = elim beside [
      | inl up ↦
          ap joined (sym (set_comm chunks from to giver taker apart))
          ∙ ap (λ (n : ℕ). joined (set (set chunks from giver) n taker)) up.0
          ∙ same_joined chunks from giver taker a b (omega (arith, up.0)) a_is
          (subst (λ (n : ℕ). b ≡ get_or chunks n b) up.0 b_is) up.1
      | inr down ↦
          ap (λ (n : ℕ). joined (set (set chunks to taker) n giver)) down.0
          ∙ same_joined chunks to taker giver b a (omega (arith, down.0)) b_is
          (subst (λ (n : ℕ). a ≡ get_or chunks n a) down.0 a_is) down.1
    ]

    -- a hole stood for the giver meanwhile
    pub given : IsGiven chunks from to count (set (set (set chunks from hole) to taker) from giver)
    given =
        subst (λ (l : List (Vec T)). IsGiven chunks from to count l)
        (sym (ap (λ (l : List (Vec T)). set l from giver) (set_comm chunks from to hole taker apart)
        ∙ set-set (set chunks to taker) from hole giver))
        (record {
          same = same;
          long = long;
          wide =
              All-set IsWide (set chunks to taker) from giver
              (omega (arith, giver_capacity, ap vec_capacity a_is, all from a within))
              (All-set IsWide chunks to taker
              (omega (arith, taker_capacity, ap vec_capacity b_is, all to b within_to)) all);
          from_len = λ d. omega (arith, ap vec_len (at_from d), ap vec_len (get_or_read chunks from a within a_is d));
          to_len = λ d. omega (arith, ap vec_len (at_to d), ap vec_len (get_or_read chunks to b within_to b_is d));
          others = others;
        })
