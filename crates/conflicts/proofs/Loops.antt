-- What one more turn of a loop adds.
use Rattle.std.specs.Prelude.{◌≡◌, ℕ, ◌+◌, ◌<◌, ◌≤◌, max, Bool, true, false, cond, not, List, [], ◌∷◌, ◌++◌, filter}
use Rattle.std.specs.Prelude.{find, length, take, slice_get, Option, Some, unwrap_or, ◌==◌, refl}
use Rattle.std.specs.List.{list_any}
use Rattle.std.specs.Option.{option_map}
use Rattle.std.proofs.Common.{sym, ◌∙◌, ap, arith, get_or, append-nil}
use Rattle.std.proofs.lemmas.List.{take_all, take_more}
use Rattle.std.proofs.lemmas.List.Elements.{filter-append}
use Rattle.std.proofs.lemmas.Option.{get_or_from_slice_get, slice_get_read}
use Rattle.std.proofs.lemmas.Bool.{eqb-true, eq-eqb}
use Rattle.vector_rev.specs.Counts.{Uid}
use Rattle.vector_rev.specs.Clock.{Clock, count_of}
use Rattle.vector_rev.specs.Compare.{same}
use Rattle.vector_rev.proofs.ClockLaws.{same_decides}
use Rattle.conflicts.specs.Document.{others, in_order}
use Rattle.conflicts.specs.Kept.{Kept, current, current_first}
use Rattle.conflicts.specs.Making.{greatest, revs, named_in, leader}
use Rattle.conflicts.specs.Walk.{seen}
use Rattle.conflicts.specs.declared.member.Member.{Member}
use Rattle.conflicts.proofs.Apart.{same_itself}
use Rattle.conflicts.proofs.MadeClocks.{greatest-append}
use Rattle.u1_base.proofs.Booleans.{none_true}
use Rattle.conflicts.proofs.Sets.{current_at, other_at, place_there, current_first_is}

pub take_next : {A : Type 0} (xs : List A) (i : ℕ) (x : A) → i < length xs → x ≡ get_or xs i x
    → take (i + 1) xs ≡ take i xs ++ x ∷ []
take_next xs i x low here = take_more xs i x low ∙ ap (λ y. take i xs ++ y ∷ []) (sym here)

pub revs-append : (ms ns : List Member) → revs (ms ++ ns) ≡ revs ms ++ revs ns
revs-append [] ns = refl
revs-append (m ∷ ms) ns = ap (λ r. m.rev ∷ r) (revs-append ms ns)

-- the greatest counter
more : (own : Uid) (xs : List Clock) (x : Clock) (n most next : ℕ) → n ≡ count_of x own → most ≡ greatest own xs
    → next ≡ max n most → next ≡ greatest own (xs ++ x ∷ [])
more own xs x n most next c m e = omega (arith, greatest-append own xs (x ∷ []))

pub greatest_next : (own : Uid) (cs : List Clock) (i : ℕ) (x : Clock) (n most next : ℕ) → i < length cs
    → x ≡ get_or cs i x → n ≡ count_of x own → most ≡ greatest own (take i cs) → next ≡ max n most
    → next ≡ greatest own (take (i + 1) cs)
greatest_next own cs i x n most next low here c m e =
    more own (take i cs) x n most next c m e ∙ ap (greatest own) (sym (take_next cs i x low here))

pub greatest_member : (own : Uid) (ms : List Member) (i : ℕ) (m : Member) (n most next : ℕ) → i < length ms
    → m ≡ get_or ms i m → n ≡ count_of m.rev own → most ≡ greatest own (revs (take i ms)) → next ≡ max n most
    → next ≡ greatest own (revs (take (i + 1) ms))
greatest_member own ms i m n most next low here c e is =
    more own (revs (take i ms)) m.rev n most next c e is
    ∙ ap (greatest own) (sym (revs-append (take i ms) (m ∷ [])) ∙ ap revs (sym (take_next ms i m low here)))

-- ---- the first member with the greatest counter

-- the current member has it
pub leader_current : (own : Uid) (k : Kept) (c : Member) (most n : ℕ) → most ≡ greatest own (revs (current_first k))
    → c ≡ current k → n ≡ count_of c.rev own → n ≡ most → c.rev ≡ leader own (current k).rev (current_first k)
leader_current own k c most n e is counted here =
    ap (λ (m : Member). m.rev) is
    ∙ sym (first_has (current_first k) (current k) (others (current k).rev k.members) (current_first_is k) passes)
  where
    passes : (count_of (current k).rev own == greatest own (revs (current_first k))) ≡ true
    passes = eq-eqb _ _ (ap (λ (m : Member). count_of m.rev own) (sym is) ∙ sym counted ∙ here ∙ e)

    first_has : (ms : List Member) (c : Member) (rest : List Member) → ms ≡ c ∷ rest
        → (count_of c.rev own == greatest own (revs ms)) ≡ true → leader own c.rev ms ≡ c.rev
    first_has ms c rest q t =
        ap (λ (ns : List Member). unwrap_or
        (option_map (λ (m : Member). m.rev) (find (λ m. count_of m.rev own == greatest own (revs ms)) ns)) c.rev) q
        ∙ ap (λ b. unwrap_or (option_map (λ (m : Member). m.rev)
        (cond b (Some c) (find (λ m. count_of m.rev own == greatest own (revs ms)) rest))) c.rev) t

-- a test that no member with the clock passes finds the same without these
find_others : (p : Member → Bool) (c : Clock) (ms : List Member) → ((m : Member) → same m.rev c ≡ true → p m ≡ false)
    → find p (others c ms) ≡ find p ms
find_others p c [] none = refl
find_others p c (m ∷ ms) none =
    elim (same m.rev c) as (λ b. same m.rev c ≡ b
    → find p (cond (not b) (m ∷ others c ms) (others c ms)) ≡ cond (p m) (Some m) (find p ms)) [
      | true ↦ λ e. find_others p c ms none ∙ ap (λ b. cond b (Some m) (find p ms)) (sym (none m e))
      | false ↦ λ _. ap (λ r. cond (p m) (Some m) r) (find_others p c ms none)
    ] refl

-- the current member has not
pub leader_other : (own : Uid) (k : Kept) (c : Member) (most n : ℕ) (r : Clock)
    → most ≡ greatest own (revs (current_first k)) → c ≡ current k → n ≡ count_of c.rev own → (n ≡ most → ⊥) →
    r ≡ unwrap_or (option_map (λ m. m.rev) (find (λ m. count_of m.rev own == most) k.members)) c.rev
    → r ≡ leader own (current k).rev (current_first k)
leader_other own k c most n r e is counted other here =
    let cur = current k in
    let fails : (count_of cur.rev own == most) ≡ false =
    none_true _ (λ t. other (counted ∙ ap (λ (m : Member). count_of m.rev own) is ∙ eqb-true _ _ t)) in
    here
    ∙ ap (λ (d : Member). unwrap_or
    (option_map (λ (m : Member). m.rev) (find (λ m. count_of m.rev own == most) k.members)) d.rev) is
    ∙ ap (λ (o : Option Member). unwrap_or (option_map (λ (m : Member). m.rev) o) cur.rev)
    (sym (find_others (λ m. count_of m.rev own == most) cur.rev k.members
    (λ m t. ap (λ (x : Clock). count_of x own == most) ((same_decides m.rev cur.rev).0 t) ∙ fails))
    ∙ ap (λ b. cond b (Some cur) (find (λ m. count_of m.rev own == most) (others cur.rev k.members))) (sym fails)
    ∙ ap (find (λ m. count_of m.rev own == most)) (sym (current_first_is k)))
    ∙ ap (λ n. unwrap_or (option_map (λ (m : Member). m.rev) (find (λ m. count_of m.rev own == n) (current_first k)))
    cur.rev) e

-- ---- the members in another order

-- the greatest counter does not go by it
pub greatest_ordered : (own : Uid) (c : Clock) (ms : List Member) (n : ℕ) → n ≡ greatest own (revs ms)
    → n ≡ greatest own (revs (in_order c ms))
greatest_ordered own c ms n e =
    omega (
      arith,
      e,
      ap (greatest own) (revs-append (filter (λ m. same m.rev c) ms) (others c ms)),
      greatest-append own (revs (filter (λ m. same m.rev c) ms)) (revs (others c ms)),
      parted ms,
    )
  where
    parted : (ms : List Member)
        → max (greatest own (revs (filter (λ m. same m.rev c) ms))) (greatest own (revs (others c ms)))
        ≡ greatest own (revs ms)
    parted [] = refl
    parted (m ∷ ms) =
        elim (same m.rev c) as (λ b. max
        (greatest own (revs (cond b (m ∷ filter (λ m. same m.rev c) ms) (filter (λ m. same m.rev c) ms))))
        (greatest own (revs (cond (not b) (m ∷ others c ms) (others c ms))))
        ≡ max (count_of m.rev own) (greatest own (revs ms))) [
          | true ↦ omega (arith, parted ms)
          | false ↦ omega (arith, parted ms)
        ]

-- ---- the members seen so far, one further

other_next : (c : Clock) (ms : List Member) (i : ℕ) (m : Member) → i < length ms → m ≡ get_or ms i m
    → others c (take (i + 1) ms) ≡ others c (take i ms) ++ others c (m ∷ [])
other_next c ms i m low here =
    ap (others c) (take_next ms i m low here) ∙ filter-append (λ n. not (same n.rev c)) (take i ms) (m ∷ [])

-- the current member is not seen again
pub seen_current : (k : Kept) (i : ℕ) → i ≡ k.place → seen k (i + 1) ≡ seen k i
seen_current k i e =
    ap (λ (ms : List Member). current k ∷ ms)
    (other_next (current k).rev k.members i (current k) (omega (arith, place_there k, e)) (at_index k i e)
    ∙ ap (λ b. others (current k).rev (take i k.members) ++ cond (not b) (current k ∷ []) [])
    (same_itself (current k).rev)
    ∙ append-nil (others (current k).rev (take i k.members)))
  where
    at_index : (k : Kept) (i : ℕ) → i ≡ k.place → current k ≡ get_or k.members i (current k)
    at_index k i e = sym (get_or_from_slice_get k.members i (current k) (current k)
        (ap (slice_get k.members) e ∙ current_at k))

-- another one is
pub seen_other : (k : Kept) (i : ℕ) (m : Member) → i < length k.members → m ≡ get_or k.members i m → (i ≡ k.place → ⊥)
    → seen k (i + 1) ≡ seen k i ++ m ∷ []
seen_other k i m low here other =
    ap (λ (ms : List Member). current k ∷ ms)
    (other_next (current k).rev k.members i m low here
    ∙ ap (λ b. others (current k).rev (take i k.members) ++ cond (not b) (m ∷ []) [])
    (other_at k i m (slice_get_read k.members (length k.members) i m refl low here) other))

pub seen_all : (k : Kept) (i : ℕ) → length k.members ≤ i → seen k i ≡ current_first k
seen_all k i most = ap (λ (ms : List Member). current k ∷ others (current k).rev ms) (take_all i k.members most)
    ∙ sym (current_first_is k)

-- ---- the named members

named-append : (named : List Clock) (ms ns : List Member)
    → revs (named_in named (ms ++ ns)) ≡ revs (named_in named ms) ++ revs (named_in named ns)
named-append named ms ns =
    ap revs (filter-append (λ m. list_any (λ c. same c m.rev) named) ms ns)
    ∙ revs-append (named_in named ms) (named_in named ns)

pub named_current : (named : List Clock) (k : Kept) (i : ℕ) (front whole : List Clock) → i ≡ k.place → whole ≡ front
    → front ≡ revs (named_in named (seen k i)) → whole ≡ revs (named_in named (seen k (i + 1)))
named_current named k i front whole e w f =
    w ∙ f ∙ ap (λ (ms : List Member). revs (named_in named ms)) (sym (seen_current k i e))

pub named_other : (named : List Clock) (k : Kept) (i : ℕ) (m : Member) (front whole : List Clock)
    → i < length k.members → m ≡ get_or k.members i m → (i ≡ k.place → ⊥)
    → whole ≡ front ++ revs (named_in named (m ∷ [])) → front ≡ revs (named_in named (seen k i))
    → whole ≡ revs (named_in named (seen k (i + 1)))
named_other named k i m front whole low here other w f =
    w
    ∙ ap (λ (cs : List Clock). cs ++ revs (named_in named (m ∷ []))) f
    ∙ sym (named-append named (seen k i) (m ∷ []))
    ∙ ap (λ (ms : List Member). revs (named_in named ms)) (sym (seen_other k i m low here other))

pub named_if : (named : List Clock) (m : Member) (b : Bool) (front whole : List Clock)
    → b ≡ list_any (λ c. same c m.rev) named → whole ≡ front ++ cond b (m.rev ∷ []) []
    → whole ≡ front ++ revs (named_in named (m ∷ []))
named_if named m b front whole test w =
    w ∙ ap (λ (cs : List Clock). front ++ cs) (by_test b test)
  where
    by_test : (b : Bool) → b ≡ list_any (λ c. same c m.rev) named
        → cond b (m.rev ∷ []) [] ≡ revs (named_in named (m ∷ []))
    by_test true t = ap (λ b. revs (cond b (m ∷ []) [])) t
    by_test false t = ap (λ b. revs (cond b (m ∷ []) [])) t
