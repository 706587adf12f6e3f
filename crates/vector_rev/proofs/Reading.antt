-- Facts of the reader of clocks: the order of uids, counters, uids, parts.
use Rattle.std.proofs.Common.{◌≡◌, ◌≢◌, ℕ, zero, suc, ◌+◌, ◌-◌, ◌<◌, ◌≤◌, ◌^◌, Bool, true, false, cond, not, ◌&&◌, T}
use Rattle.std.proofs.Common.{List, [], ◌∷◌, ◌++◌, length, get_or, take, map, refl, Option, Some, None, Result, Ok, Err}
use Rattle.std.proofs.Common.{sym, ◌∙◌, ap, ap₂, subst, arith, rules, leb, eqb, inl, inr, le-leb, eq-eqb, eqb-true}
use Rattle.std.proofs.Common.{true≢false, Ordering, Less}
use Rattle.std.specs.Prelude.{position, MatchResult, slice_index}
use Rattle.std.specs.List.{list_all, position_from, position_or_len, before_first}
use Rattle.std.specs.Char.{is_ascii_digit}
use Rattle.std.specs.Str.Parse.{digits_value, ParsesUnsigned}
use Rattle.std.specs.Ordering.{is_lt}
use Rattle.std.specs.Cmp.Lexicographic.{nat_list_cmp_total}
use Rattle.std.specs.FinMap.Entries.{is_sorted, below_all}
use Rattle.std.proofs.lemmas.Str.Parse.{IsNumeralModel, numerals_by_value, parse_digits}
use Rattle.std.proofs.lemmas.List.{take_more, take_all, drop_all, map_more, length-map, length-take-le}
use Rattle.std.proofs.lemmas.List.Folds.{list_all_more}
use Rattle.std.proofs.lemmas.Bool.{lt-leb, leb-true, and_parts, and_right, cases_lt}
use Rattle.std.proofs.lemmas.Iterator.Adapters.{position_from-zero}
use Rattle.u1_base.specs.Ids.{is_allowed, id_cmp, is_id}
use Rattle.u1_base.specs.declared.ids.Form.TheVariants as form_of
use Rattle.u1_base.specs.declared.limits.TheConstants.{GREATEST_COUNT}
use Rattle.vector_rev.specs.Counts.{Uid, Entries}
use Rattle.vector_rev.proofs.Truths.{both, first, second, T_true, true_T}
use Rattle.vector_rev.specs.Clock.{Clock, is_entry, is_limited}
use Rattle.vector_rev.specs.ClockText.{IsFirstUnsorted, IsTextFault, TakesEntries, is_numeral}
use Rattle.vector_rev.specs.ClockText.{is_counter, is_entry_text, entry_of, entries_text, parts_of}
use Rattle.vector_rev.specs.inner.Parts.{EntryIs, OrdersEntries, ReadsEntries}
use Rattle.vector_rev.specs.declared.read.ClockFault.{ClockFault}
use Rattle.vector_rev.specs.declared.read.ClockFault.TheVariants as fault
use Rattle.vector_rev.proofs.CountsLaws.{less_is}

-- ---- the order of uids

below_push : (u : Uid) (es : Entries) (e : Uid × ℕ)
    → below_all id_cmp u (es ++ e ∷ []) ≡ (below_all id_cmp u es && is_lt (id_cmp u e.0))
below_push u [] e = elim (is_lt (id_cmp u e.0)) as (λ b. (b && true) ≡ b) [ true ↦ refl | false ↦ refl ]
below_push u (f ∷ es) e =
    ap (λ b. is_lt (id_cmp u f.0) && b) (below_push u es e)
    ∙ elim (is_lt (id_cmp u f.0)) as
    (λ b. (b && (below_all id_cmp u es && is_lt (id_cmp u e.0)))
    ≡ ((b && below_all id_cmp u es) && is_lt (id_cmp u e.0))) [ true ↦ refl | false ↦ refl ]

lt_trans : (u v w : Uid) → is_lt (id_cmp u v) ≡ true → is_lt (id_cmp v w) ≡ true → is_lt (id_cmp u w) ≡ true
lt_trans u v w p q = ap is_lt (nat_list_cmp_total.trans u v w (less_is _ (true_T _ p)) (less_is _ (true_T _ q)))

-- b below all of a list that ends in one below c: the last test settles
settled : (below sorted last new : Bool) → (below ≡ true → last ≡ true → new ≡ true)
    → ((below && new) && (sorted && last)) ≡ ((below && sorted) && last)
settled false sorted last new h = refl
settled true sorted true new h = ap (λ b. b && (sorted && true)) (h refl refl)
settled true true false new h = elim new as (λ b. (b && false) ≡ false) [ true ↦ refl | false ↦ refl ]
settled true false false new h = elim new as (λ b. (b && false) ≡ false) [ true ↦ refl | false ↦ refl ]

sorted_push : (front : Entries) (a b : Uid × ℕ)
    → is_sorted id_cmp ((front ++ a ∷ []) ++ b ∷ []) ≡ (is_sorted id_cmp (front ++ a ∷ []) && is_lt (id_cmp a.0 b.0))
sorted_push [] a b = elim (is_lt (id_cmp a.0 b.0)) as
    (λ t. ((t && true) && (true && true)) ≡ ((true && true) && t)) [ true ↦ refl | false ↦ refl ]
sorted_push (f ∷ front) a b =
    ap₂ (λ s t. s && t) (below_push f.0 (front ++ a ∷ []) b) (sorted_push front a b)
    ∙ settled (below_all id_cmp f.0 (front ++ a ∷ [])) (is_sorted id_cmp (front ++ a ∷ [])) (is_lt (id_cmp a.0 b.0))
    (is_lt (id_cmp f.0 b.0))
    (λ below last. lt_trans f.0 a.0 b.0 (last_below below) last)
  where
    last_below : below_all id_cmp f.0 (front ++ a ∷ []) ≡ true → is_lt (id_cmp f.0 a.0) ≡ true
    last_below e =
        (and_parts (below_all id_cmp f.0 front) (is_lt (id_cmp f.0 a.0)) (sym (below_push f.0 front a) ∙ e)).1

-- one entry more
pub sorted_more : (es : Entries) (i : ℕ) (a b : Uid × ℕ) → 1 ≤ i → i < length es → a ≡ get_or es (i - 1) a
    → b ≡ get_or es i b → is_sorted id_cmp (take (i + 1) es) ≡ (is_sorted id_cmp (take i es) && is_lt (id_cmp a.0 b.0))
sorted_more es i a b low high ia ib =
    let before : take i es ≡ take (i - 1) es ++ a ∷ [] =
    ap (λ k. take k es) (up i low) ∙ take_more es (i - 1) a (omega arith)
    ∙ ap (λ (e : Uid × ℕ). take (i - 1) es ++ e ∷ []) (sym ia) in
    ap (is_sorted id_cmp) (take_more es i b high ∙ ap₂ (λ (fs : Entries) (e : Uid × ℕ). fs ++ e ∷ []) before (sym ib))
    ∙ sorted_push (take (i - 1) es) a b
    ∙ ap (λ fs. is_sorted id_cmp fs && is_lt (id_cmp a.0 b.0)) (sym before)
  where
    up : (k : ℕ) → 1 ≤ k → k ≡ (k - 1) + 1
    up k h = omega arith

pub first_unsorted_at : (es : Entries) (i : ℕ) (a b : Uid × ℕ) (r : Ordering) → 1 ≤ i → i < length es
    → a ≡ get_or es (i - 1) a → b ≡ get_or es i b → id_cmp a.0 b.0 ≡ r → is_lt r ≡ false
    → T (is_sorted id_cmp (take i es)) → IsFirstUnsorted es i
first_unsorted_at es i a b r low high ia ib c over h = record {
  there = high;
  before = T_true _ h;
  unsorted = sorted_more es i a b low high ia ib ∙ ap₂ (λ x y. x && y) (T_true _ h) (ap is_lt c ∙ over);
}

pub sorted_on : (es : Entries) (i : ℕ) (a b : Uid × ℕ) → 1 ≤ i → i < length es → a ≡ get_or es (i - 1) a
    → b ≡ get_or es i b → id_cmp a.0 b.0 ≡ Less → T (is_sorted id_cmp (take i es))
    → T (is_sorted id_cmp (take (i + 1) es))
sorted_on es i a b low high ia ib c h =
    true_T _ (sorted_more es i a b low high ia ib ∙ ap₂ (λ x y. x && y) (T_true _ h) (ap is_lt c))

pub sorted_start : (es : Entries) → T (is_sorted id_cmp (take 1 es))
sorted_start [] = tt
sorted_start (e ∷ es) = tt

pub sorted_end : (es : Entries) (i : ℕ) → length es ≤ i → T (is_sorted id_cmp (take i es)) → T (is_sorted id_cmp es)
sorted_end es i le h = subst (λ fs. T (is_sorted id_cmp fs)) (take_all i es le) h

-- ---- counters

pub own_numerals : IsNumeralModel (λ ds. list_all is_ascii_digit ds ≡ true) (digits_value 10)
own_numerals = numerals_by_value (λ ds. list_all is_ascii_digit ds ≡ true) (search rules)

and_first : (a b : Bool) → a ≡ true → (a && b) ≡ b
and_first true b e = refl
and_first false b e = absurd (true≢false (sym e))

pub some_digits : (ds : List ℕ) → is_numeral ds ≡ true → (list_all is_ascii_digit ds ≡ true) × (1 ≤ length ds)
some_digits ds e =
    let parts = and_parts (list_all is_ascii_digit ds && leb 1 (length ds)) (not (eqb (slice_index ds 0) 48)) e in
    let front = and_parts (list_all is_ascii_digit ds) (leb 1 (length ds)) parts.0 in
    (front.0, leb-true 1 (length ds) front.1)

counter_too_big : (n : ℕ) → ¬ (n < 2 ^ 64) → leb n GREATEST_COUNT ≡ false
counter_too_big n h =
    elim (cases_lt GREATEST_COUNT n) [
      | inl high ↦ lt-leb n GREATEST_COUNT high
      | inr low ↦ absurd (h (omega (arith, low)))
    ]

-- what `parse` gives for a numeral
pub parsed_numeral : {E : Type 0} (ds : List ℕ) (r : Result ℕ E) → is_numeral ds ≡ true → ParsesUnsigned 64 10 ds r
    → MatchResult r (λ n. n ≡ digits_value 10 ds) (λ _. is_counter ds ≡ false)
parsed_numeral {E} ds (Ok n) is p = (parse_digits own_numerals {E = E} 64 ds (Ok n) p (some_digits ds is).0).1
parsed_numeral ds (Err e) is p =
    and_first (is_numeral ds) (leb (digits_value 10 ds) GREATEST_COUNT) is
    ∙ counter_too_big (digits_value 10 ds)
    (λ small. parse_digits own_numerals 64 ds (Err e) p (some_digits ds is).0 ((some_digits ds is).1, small))

-- ---- the first that fails a test

passed_none : {X : Type 0} (p : X → Bool) (k : ℕ) (xs : List X) → list_all p xs ≡ true
    → position_from (λ x. not (p x)) k xs ≡ None
passed_none p k [] all = refl
passed_none p k (x ∷ xs) all =
    let parts = and_parts (p x) (list_all p xs) all in
    ap (λ b. cond (not b) (Some k) (position_from (λ x. not (p x)) (k + 1) xs)) parts.0
    ∙ passed_none p (k + 1) xs parts.1

-- one that fails is found: not all pass
pub fails-position : {X : Type 0} (p : X → Bool) (xs : List X) (i : ℕ) → position (λ x. not (p x)) xs ≡ Some i
    → list_all p xs ≡ false
fails-position p xs i at =
    elim (list_all p xs) as (λ b. list_all p xs ≡ b → b ≡ false) [
      | true ↦ λ all. absurd (some_none i (sym at ∙ position_from-zero (λ x. not (p x)) xs ∙ passed_none p 0 xs all))
      | false ↦ λ _. refl
    ] refl
  where
    some_none : (k : ℕ) → Some k ≡ None → ⊥
    some_none k e = absurd (cc)

passed_all : {X : Type 0} (p : X → Bool) (k : ℕ) (xs : List X) → position_from (λ x. not (p x)) k xs ≡ None
    → list_all p xs ≡ true
passed_all p k [] none = refl
passed_all p k (x ∷ xs) none = one (p x) k _ _ none (passed_all p (k + 1) xs)
  where
    one : (b : Bool) (m : ℕ) (found : Option ℕ) (all : Bool) → cond (not b) (Some m) found ≡ None
        → (found ≡ None → all ≡ true) → (b && all) ≡ true
    one true m found all e later = later e
    one false m found all e later = absurd (cc)

-- none is found that fails: all pass
pub passes-no_position : {X : Type 0} (p : X → Bool) (xs : List X) → position (λ x. not (p x)) xs ≡ None
    → list_all p xs ≡ true
passes-no_position p xs none = passed_all p 0 xs (sym (position_from-zero (λ x. not (p x)) xs) ∙ none)

found_at : {X : Type 0} (p : X → Bool) (k : ℕ) (xs : List X) (i : ℕ) (d : X) → i < length xs
    → list_all p (take i xs) ≡ true → p (get_or xs i d) ≡ false → position_from (λ x. not (p x)) k xs ≡ Some (k + i)
found_at p k [] i d below all fails = absurd (omega arith)
found_at p k (x ∷ xs) zero d below all fails =
    ap (λ b. cond (not b) (Some k) (position_from (λ x. not (p x)) (k + 1) xs)) fails ∙ ap Some (add_zero k)
  where
    add_zero : (n : ℕ) → n ≡ n + 0
    add_zero n = omega arith
found_at p k (x ∷ xs) (suc i) d below all fails =
    let parts = and_parts (p x) (list_all p (take i xs)) all in
    ap (λ b. cond (not b) (Some k) (position_from (λ x. not (p x)) (k + 1) xs)) parts.0
    ∙ found_at p (k + 1) xs i d (omega arith) parts.1 fails ∙ ap Some (shift k i)
  where
    shift : (m n : ℕ) → (m + 1) + n ≡ m + suc n
    shift m n = omega arith

-- all before a place pass and that one fails: it is the first
pub position_at : {X : Type 0} (p : X → Bool) (xs : List X) (i : ℕ) (d : X) → i < length xs
    → list_all p (take i xs) ≡ true → p (get_or xs i d) ≡ false → position (λ x. not (p x)) xs ≡ Some i
position_at p xs i d below all fails = position_from-zero (λ x. not (p x)) xs ∙ found_at p 0 xs i d below all fails
    ∙ ap Some (zero_add i)
  where
    zero_add : (n : ℕ) → 0 + n ≡ n
    zero_add n = omega arith

-- a byte outside the alphabet: no uid
pub uid_bad_byte : (u : List ℕ) (at : ℕ) → position (λ b. not (is_allowed form_of.Replica b)) u ≡ Some at
    → is_id form_of.Replica u ≡ false
uid_bad_byte u at e = and_right (leb 1 (length u) && leb (length u) 64) _
    (fails-position (is_allowed form_of.Replica) u at e)

-- ---- the parts of a text

-- the entries that were read of the first n parts
pub record AreRead (parts : List (List ℕ)) (n : ℕ) (es : Entries) : Type 0 where
  pub good : list_all is_entry_text (take n parts) ≡ true
  pub entries : es ≡ map entry_of (take n parts)

pub read_more : (parts : List (List ℕ)) (n m : ℕ) (es fs : Entries) (part : List ℕ) (e : Uid × ℕ) → AreRead parts n es
    → n < length parts → part ≡ get_or parts n part → is_entry_text part ≡ true → e ≡ entry_of part → fs ≡ es ++ e ∷ []
    → m ≡ n + 1 → AreRead parts m fs
read_more parts n m es fs part e known below at good is pushed next = record {
  good =
      ap (λ k. list_all is_entry_text (take k parts)) next ∙ list_all_more is_entry_text parts n part below
      ∙ ap₂ (λ a b. a && b) known.good (ap is_entry_text (sym at) ∙ good);
  entries =
      pushed ∙ ap₂ (λ (gs : Entries) (g : Uid × ℕ). gs ++ g ∷ []) known.entries (is ∙ ap entry_of at)
      ∙ sym (map_more entry_of parts n part below) ∙ ap (λ k. map entry_of (take k parts)) (sym next);
}

pub read_bad : (parts : List (List ℕ)) (n k : ℕ) (es : Entries) (part : List ℕ) → AreRead parts n es → n < length parts
    → part ≡ get_or parts n part → is_entry_text part ≡ false → k ≡ length es
    → position (λ p. not (is_entry_text p)) parts ≡ Some k
read_bad parts n k es part known below at bad is =
    position_at is_entry_text parts n part below known.good (ap is_entry_text (sym at) ∙ bad)
    ∙ ap Some (sym (is ∙ ap length known.entries ∙ length-map (take n parts) entry_of
    ∙ length-take-le n parts (omega arith)))

pub read_all : (parts : List (List ℕ)) (n : ℕ) (es : Entries) → AreRead parts n es → n ≡ length parts
    → (list_all is_entry_text parts ≡ true) × (es ≡ map entry_of parts)
read_all parts n es known all =
    let whole : take n parts ≡ parts = take_all n parts (omega arith) in
    (ap (list_all is_entry_text) (sym whole) ∙ known.good, known.entries ∙ ap (map entry_of) whole)

-- a part without `:` is no entry
pub no_colon : (part : List ℕ) → position_or_len (λ b. eqb b 58) part ≡ length part → is_entry_text part ≡ false
no_colon part e =
    and_right (is_id form_of.Replica (before_first (λ b. eqb b 58) part)) _
    (ap is_counter (drop_all (position_or_len (λ b. eqb b 58) part + 1) part (omega (arith, e))))

-- what was read of a part, in its two cases
pub reads_some : (part : List ℕ) (o : Option (Uid × ℕ)) (e : Uid × ℕ) → o ≡ Some e → EntryIs part o
    → (is_entry_text part ≡ true) × (e ≡ entry_of part)
reads_some part o e is h = subst (EntryIs part) is h

pub reads_none : (part : List ℕ) (o : Option (Uid × ℕ)) → o ≡ None → EntryIs part o → is_entry_text part ≡ false
reads_none part o is h = subst (EntryIs part) is h

-- ---- lists of entries

pub is_limited-entries : (es fs : Entries) → fs ≡ es → None ≡ position (λ e. not (is_entry e)) fs → 1 ≤ length es
    → length es ≤ 64 → T (is_limited es)
is_limited-entries es fs same none some few =
    both _ _ (both _ _ (true_T _
    (passes-no_position is_entry es (ap (position (λ e. not (is_entry e))) (sym same) ∙ sym none)))
    (true_T _ (le-leb 1 (length es) some)))
    (true_T _ (le-leb (length es) 64 few))

pub takes_ordered : (es fs : Entries) (r : Result Clock ClockFault) → fs ≡ es → 1 ≤ length es → T (is_limited es)
    → OrdersEntries fs r → TakesEntries es r
takes_ordered es fs (Ok x) same some limited h = h ∙ same
takes_ordered es fs (Err (fault.NotSorted i)) same some limited h = (
  λ none. absurd (omega (arith, some, ap (λ (gs : Entries). length gs) none)),
  leb-true (length es) 64 (T_true _ (second (list_all is_entry es && leb 1 (length es)) _ limited)),
  T_true _ (first _ _ (first _ _ limited)),
  subst (λ gs. IsFirstUnsorted gs i) same h,
)
takes_ordered es fs (Err fault.Empty) same some limited h = absurd h
takes_ordered es fs (Err fault.TooMany) same some limited h = absurd h
takes_ordered es fs (Err (fault.BadEntry i)) same some limited h = absurd h
takes_ordered es fs (Err fault.Memory) same some limited h = absurd h

-- ---- texts

-- a clock's own text, or why there is none
abbrev pub ReadsText : List ℕ → Result Clock ClockFault → Type 0
ReadsText text (Ok x) = text ≡ entries_text x.entries
ReadsText text (Err f) = IsTextFault text f

pub reads_fault : (text : List ℕ) (f : ClockFault) → text ≢ [] → length (parts_of text) ≤ 64
    → ReadsEntries (parts_of text) (Err f) → IsTextFault text f
reads_fault text fault.Empty some few h = absurd h
reads_fault text fault.TooMany some few h = absurd h
reads_fault text (fault.BadEntry i) some few h = (some, few, h)
reads_fault text (fault.NotSorted i) some few h = absurd h
reads_fault text fault.Memory some few h = tt

pub reads_ordered : (text : List ℕ) (es fs : Entries) (r : Result Clock ClockFault) → text ≢ []
    → length (parts_of text) ≤ 64 → ReadsEntries (parts_of text) (Ok es) → fs ≡ es → text ≡ entries_text es
    → OrdersEntries fs r → ReadsText text r
reads_ordered text es fs (Ok x) some few h same spelled ordered = spelled ∙ ap entries_text (sym same ∙ sym ordered)
reads_ordered text es fs (Err (fault.NotSorted i)) some few h same spelled ordered =
    (some, few, h.0, subst (λ gs. IsFirstUnsorted gs i) (same ∙ h.1) ordered)
reads_ordered text es fs (Err fault.Empty) some few h same spelled ordered = absurd ordered
reads_ordered text es fs (Err fault.TooMany) some few h same spelled ordered = absurd ordered
reads_ordered text es fs (Err (fault.BadEntry i)) some few h same spelled ordered = absurd ordered
reads_ordered text es fs (Err fault.Memory) some few h same spelled ordered = absurd ordered

-- what `is_empty` told
pub some_from_test : (n : ℕ) (b : Bool) → b ≡ eqb n 0 → b ≡ false → 1 ≤ n
some_from_test n b is over = elim (cases_lt 0 n) [
  | inl low ↦ omega (arith, low)
  | inr high ↦ absurd (true≢false (sym (eq-eqb n 0 (omega (arith, high))) ∙ sym is ∙ over))
]

pub not_nil : (text : List ℕ) → 1 ≤ length text → text ≢ []
not_nil text some e = omega (arith, some, ap (λ (t : List ℕ). length t) e)

pub empty_is : (text : List ℕ) (b : Bool) → b ≡ eqb (length text) 0 → b ≡ true → text ≡ []
empty_is [] b is over = refl
empty_is (x ∷ text) b is over = absurd (omega (arith, eqb-true (length (x ∷ text)) 0 (sym is ∙ over)))
