-- Steps of the loops over entries, along two lists in order.
use Rattle.std.proofs.Common.{◌≡◌, ℕ, ◌+◌, ◌<◌, ◌≤◌, ◌^◌, Bool, true, false, cond, ◌&&◌, T, [], ◌∷◌, length, get_or}
use Rattle.std.proofs.Common.{drop, refl, Some, unwrap_or, sym, ◌∙◌, ap, ap₂, subst, arith, leb, ltb, le-leb}
use Rattle.std.proofs.Common.{ltb-true, eqb, eq-eqb, ne_eqb, inl, inr, ◌⊎◌, Ordering, Less, Equal, Greater}
use Rattle.std.specs.Ordering.{is_lt, is_eq, ordering_reverse}
use Rattle.std.specs.Cmp.Lexicographic.{nat_list_cmp_total}
use Rattle.std.specs.FinMap.Entries.{find, is_sorted, below_all}
use Rattle.std.proofs.lemmas.List.{drop_more, drop_all}
use Rattle.std.proofs.lemmas.Bool.{cases_lt, lt-leb}
use mathlib.Core.Bool.{and-false}
use Rattle.u1_base.specs.Ids.{IsId, id_cmp}
use Rattle.u1_base.specs.declared.ids.Form.TheVariants as form_of
use Rattle.u1_base.specs.declared.limits.TheConstants.{GREATEST_COUNT}
use Rattle.vector_rev.specs.Counts.{Uid, Entries, count_in}
use Rattle.vector_rev.proofs.CountsLaws.{is_counts, is_counts-is_clock, less_is, above_not_same, count_below}
use Rattle.vector_rev.proofs.Truths.{both, first, second, T_true, true_T}
use Rattle.u1_base.proofs.SameIds.{id_tied, same_id-comm}
use Rattle.vector_rev.specs.Clock.{is_entry, is_clock, covers_entries}

-- a uid with a counter in range is an entry
pub is_entry-IsId : (u : Uid) (n : ℕ) → IsId form_of.Replica u → 1 ≤ n → n < 2 ^ 63 → T (is_entry (u, n))
is_entry-IsId u n id low high =
    both _ _ (both _ _ (true_T _ id) (true_T _ (le-leb 1 n low)))
    (true_T _ (le-leb n GREATEST_COUNT (omega (arith, high))))

-- ---- along two lists in order

pub below_trans : (u v : Uid) (es : Entries) → id_cmp u v ≡ Less → T (below_all id_cmp v es) → T (below_all id_cmp u es)
below_trans u v [] less h = tt
below_trans u v (e ∷ es) less h =
    both _ _ (subst (λ r. T (is_lt r))
    (sym (nat_list_cmp_total.trans u v e.0 less (less_is (id_cmp v e.0) (first _ _ h)))) tt)
    (below_trans u v es less (second (is_lt (id_cmp v e.0)) _ h))

-- an entry below all of a list does not bear on whether the others cover the list
covers_past : (e : Uid × ℕ) (xs ys : Entries) → T (below_all id_cmp e.0 ys)
    → covers_entries (e ∷ xs) ys ≡ covers_entries xs ys
covers_past e xs [] h = refl
covers_past e xs (f ∷ ys) h =
    ap₂ (λ a b. leb f.1 (unwrap_or (cond a (Some e.1) (find id_cmp f.0 xs)) 0) && b)
    (above_not_same f.0 e.0 (first _ _ h)) (covers_past e xs ys (second (is_lt (id_cmp e.0 f.0)) _ h))

head_counted : (e : Uid × ℕ) (es : Entries) → T (is_counts (e ∷ es)) → 0 < e.1
head_counted e es h = ltb-true 0 e.1 (T_true _ (first _ _ (second (is_sorted id_cmp (e ∷ es)) _ h)))

head_below : (e : Uid × ℕ) (es : Entries) → T (is_counts (e ∷ es)) → T (below_all id_cmp e.0 es)
head_below e es h = first _ _ (first _ _ h)

pub tail_counts : (e : Uid × ℕ) (es : Entries) → T (is_counts (e ∷ es)) → T (is_counts es)
tail_counts e es h =
    both _ _ (second (below_all id_cmp e.0 es) _ (first _ _ h))
    (second (ltb 0 e.1) _ (second (is_sorted id_cmp (e ∷ es)) _ h))

-- a list that does not begin with the least uid does not cover the other
covers_missing : (x y : Uid × ℕ) (xs ys : Entries) → id_cmp x.0 y.0 ≡ Less → T (is_counts (x ∷ xs))
    → T (is_counts (y ∷ ys)) → covers_entries (y ∷ ys) (x ∷ xs) ≡ false
covers_missing x y xs ys less g h =
    let gone : count_in (y ∷ ys) x.0 ≡ 0 = count_below x.0 (y ∷ ys)
    (both _ _ (subst (λ r. T (is_lt r)) (sym less) tt) (below_trans x.0 y.0 ys less (head_below y ys h))) in
    ap (λ n. leb x.1 n && covers_entries (y ∷ ys) xs) gone
    ∙ ap (λ b. b && covers_entries (y ∷ ys) xs) (lt-leb x.1 0 (head_counted x xs g))

covers_less : (x y : Uid × ℕ) (xs ys : Entries) → id_cmp x.0 y.0 ≡ Less → T (is_counts (y ∷ ys))
    → covers_entries (x ∷ xs) (y ∷ ys) ≡ covers_entries xs (y ∷ ys)
covers_less x y xs ys less h =
    covers_past x xs (y ∷ ys)
    (both _ _ (subst (λ r. T (is_lt r)) (sym less) tt) (below_trans x.0 y.0 ys less (head_below y ys h)))

covers_equal : (x y : Uid × ℕ) (xs ys : Entries) → id_cmp x.0 y.0 ≡ Equal → T (is_counts (y ∷ ys))
    → covers_entries (x ∷ xs) (y ∷ ys) ≡ (leb y.1 x.1 && covers_entries xs ys)
covers_equal x y xs ys same h =
    ap₂ (λ a b. leb y.1 (unwrap_or (cond a (Some x.1) (find id_cmp y.0 xs)) 0) && b)
    (same_id-comm y.0 x.0 ∙ ap is_eq same)
    (covers_past x xs ys (subst (λ u. T (below_all id_cmp u ys)) (sym (id_tied x.0 y.0 same)) (head_below y ys h)))

-- what is known while two lists are compared from i and j on
pub record Compared (xs ys : Entries) (i j : ℕ) (forward backward : Bool) : Type 0 where
  pub left_place : i ≤ length xs
  pub right_place : j ≤ length ys
  pub left_counts : T (is_counts (drop i xs))
  pub right_counts : T (is_counts (drop j ys))
  pub left_covers : covers_entries xs ys ≡ (forward && covers_entries (drop i xs) (drop j ys))
  pub right_covers : covers_entries ys xs ≡ (backward && covers_entries (drop j ys) (drop i xs))

pub compared_start : (xs ys : Entries) → T (is_clock xs) → T (is_clock ys) → Compared xs ys 0 0 true true
compared_start xs ys g h = record {
  left_place = omega arith;
  right_place = omega arith;
  left_counts = is_counts-is_clock xs g;
  right_counts = is_counts-is_clock ys h;
  left_covers = refl;
  right_covers = refl;
}

-- the list from a place on, with the element that the code read there
pub from_place : (es : Entries) (i : ℕ) (e : Uid × ℕ) → i < length es → e ≡ get_or es i e
    → drop i es ≡ e ∷ drop (i + 1) es
from_place es i e below at = drop_more es i e below ∙ ap (λ (f : Uid × ℕ). f ∷ drop (i + 1) es) (sym at)

and_assoc : (a b c : Bool) → (a && (b && c)) ≡ ((a && b) && c)
and_assoc true b c = refl
and_assoc false b c = refl

pub compared_less : (xs ys : Entries) (i j : ℕ) (f b : Bool) (x y : Uid × ℕ) → i < length xs → j < length ys
    → x ≡ get_or xs i x → y ≡ get_or ys j y → id_cmp x.0 y.0 ≡ Less → Compared xs ys i j f b
    → Compared xs ys (i + 1) j f false
compared_less xs ys i j f b x y li lj ax ay less k =
    let dx : drop i xs ≡ x ∷ drop (i + 1) xs = from_place xs i x li ax in
    let dy : drop j ys ≡ y ∷ drop (j + 1) ys = from_place ys j y lj ay in
    let g : T (is_counts (x ∷ drop (i + 1) xs)) = subst (λ es. T (is_counts es)) dx k.left_counts in
    let h : T (is_counts (y ∷ drop (j + 1) ys)) = subst (λ es. T (is_counts es)) dy k.right_counts in
    record {
      left_place = omega arith;
      right_place = k.right_place;
      left_counts = tail_counts x _ g;
      right_counts = k.right_counts;
      left_covers = k.left_covers ∙ ap₂ (λ es fs. f && covers_entries es fs) dx dy
          ∙ ap (λ c. f && c) (covers_less x y (drop (i + 1) xs) (drop (j + 1) ys) less h
          ∙ ap (covers_entries (drop (i + 1) xs)) (sym dy));
      right_covers = k.right_covers ∙ ap₂ (λ es fs. b && covers_entries fs es) dx dy
          ∙ ap (λ c. b && c) (covers_missing x y (drop (i + 1) xs) (drop (j + 1) ys) less g h) ∙ and-false b;
    }

pub compared_greater : (xs ys : Entries) (i j : ℕ) (f b : Bool) (x y : Uid × ℕ) → i < length xs → j < length ys
    → x ≡ get_or xs i x → y ≡ get_or ys j y → id_cmp x.0 y.0 ≡ Greater → Compared xs ys i j f b
    → Compared xs ys i (j + 1) false b
compared_greater xs ys i j f b x y li lj ax ay greater k =
    let swapped : Compared ys xs (j + 1) i b false =
    compared_less ys xs j i b f y x lj li ay ax (nat_list_cmp_total.antisymm y.0 x.0 ∙ ap ordering_reverse greater)
    (record {
      left_place = k.right_place;
      right_place = k.left_place;
      left_counts = k.right_counts;
      right_counts = k.left_counts;
      left_covers = k.right_covers;
      right_covers = k.left_covers;
    }) in
    record {
      left_place = swapped.right_place;
      right_place = swapped.left_place;
      left_counts = swapped.right_counts;
      right_counts = swapped.left_counts;
      left_covers = swapped.right_covers;
      right_covers = swapped.left_covers;
    }

pub compared_equal : (xs ys : Entries) (i j : ℕ) (f b : Bool) (x y : Uid × ℕ) → i < length xs → j < length ys
    → x ≡ get_or xs i x → y ≡ get_or ys j y → id_cmp x.0 y.0 ≡ Equal → Compared xs ys i j f b
    → Compared xs ys (i + 1) (j + 1) (f && leb y.1 x.1) (b && leb x.1 y.1)
compared_equal xs ys i j f b x y li lj ax ay same k =
    let dx : drop i xs ≡ x ∷ drop (i + 1) xs = from_place xs i x li ax in
    let dy : drop j ys ≡ y ∷ drop (j + 1) ys = from_place ys j y lj ay in
    let g : T (is_counts (x ∷ drop (i + 1) xs)) = subst (λ es. T (is_counts es)) dx k.left_counts in
    let h : T (is_counts (y ∷ drop (j + 1) ys)) = subst (λ es. T (is_counts es)) dy k.right_counts in
    record {
      left_place = omega arith;
      right_place = omega arith;
      left_counts = tail_counts x _ g;
      right_counts = tail_counts y _ h;
      left_covers = k.left_covers ∙ ap₂ (λ es fs. f && covers_entries es fs) dx dy
          ∙ ap (λ c. f && c) (covers_equal x y (drop (i + 1) xs) (drop (j + 1) ys) same h) ∙ and_assoc f _ _;
      right_covers = k.right_covers ∙ ap₂ (λ es fs. b && covers_entries fs es) dx dy
          ∙ ap (λ c. b && c) (covers_equal y x (drop (j + 1) ys) (drop (i + 1) xs)
          (nat_list_cmp_total.antisymm y.0 x.0 ∙ ap ordering_reverse same) g) ∙ and_assoc b _ _;
    }

-- at the end of one of the lists: the other is covered where it has ended too
covers_rest : (xs ys : Entries) (i j : ℕ) → (length xs ≤ i) ⊎ (length ys ≤ j) → j ≤ length ys
    → T (is_counts (drop j ys)) → covers_entries (drop i xs) (drop j ys) ≡ eqb j (length ys)
covers_rest xs ys i j ended le h =
    elim (cases_lt j (length ys)) [
      | inl more ↦
          let nothing : drop i xs ≡ [] = drop_all i xs
          (elim ended [ inl e ↦ e | inr e ↦ absurd (omega (arith, more, e)) ]) in
          let y : Uid × ℕ = get_or ys j ([], 0) in
          let dy : drop j ys ≡ y ∷ drop (j + 1) ys = drop_more ys j ([], 0) more in
          let g : T (is_counts (y ∷ drop (j + 1) ys)) = subst (λ es. T (is_counts es)) dy h in
          ap₂ covers_entries nothing dy
          ∙ ap (λ b. b && covers_entries [] (drop (j + 1) ys)) (lt-leb y.1 0 (head_counted y _ g))
          ∙ sym (ne_eqb j (length ys) (λ e. omega (arith, more, e)))
      | inr all ↦ ap (covers_entries (drop i xs)) (drop_all j ys all)
          ∙ sym (eq-eqb j (length ys) (omega (arith, all, le)))
    ]

pub compared_end : (xs ys : Entries) (i j : ℕ) (f b : Bool) → (length xs ≤ i) ⊎ (length ys ≤ j)
    → Compared xs ys i j f b → ((f && eqb j (length ys)) ≡ covers_entries xs ys)
    × ((b && eqb i (length xs)) ≡ covers_entries ys xs)
compared_end xs ys i j f b ended k = (
  sym (k.left_covers ∙ ap (λ c. f && c) (covers_rest xs ys i j ended k.right_place k.right_counts)),
  sym (k.right_covers ∙ ap (λ c. b && c)
      (covers_rest ys xs j i (elim ended [ inl e ↦ inr e | inr e ↦ inl e ]) k.left_place k.left_counts)),
)

-- what the code compared, said of the entries
pub cmp_is : (a b u v : Uid) (r s : Ordering) → u ≡ a → v ≡ b → r ≡ id_cmp u v → r ≡ s → id_cmp a b ≡ s
cmp_is a b u v r s eu ev e is = ap₂ id_cmp (sym eu) (sym ev) ∙ sym e ∙ is

pub compared_counters : (xs ys : Entries) (i j : ℕ) (f b : Bool) (x y : Uid × ℕ) (m n p q : ℕ) → i < length xs
    → j < length ys → x ≡ get_or xs i x → y ≡ get_or ys j y → id_cmp x.0 y.0 ≡ Equal → m ≡ y.1 → n ≡ x.1 → p ≡ x.1
    → q ≡ y.1 → Compared xs ys i j f b → Compared xs ys (i + 1) (j + 1) (f && leb m n) (b && leb p q)
compared_counters xs ys i j f b x y m n p q li lj ax ay same em en ep eq k =
    subst (λ c. Compared xs ys (i + 1) (j + 1) c (b && leb p q)) (ap₂ (λ c d. f && leb c d) (sym em) (sym en))
    (subst (λ c. Compared xs ys (i + 1) (j + 1) (f && leb y.1 x.1) c) (ap₂ (λ c d. b && leb c d) (sym ep) (sym eq))
    (compared_equal xs ys i j f b x y li lj ax ay same k))
