-- The text of a clock: its parts are the texts of its entries, and a part that is an entry is the text of that entry.
use Rattle.std.proofs.Common.{◌≡◌, ℕ, suc, ◌+◌, ◌<◌, ◌≤◌, ◌^◌, Bool, true, false, cond, not, ◌&&◌, T, List, [], ◌∷◌}
use Rattle.std.proofs.Common.{◌++◌, length, get_or, take, drop, map, refl, sym, ◌∙◌, ap, ap₂, arith, leb, eqb, inl, inr}
use Rattle.std.proofs.Common.{le-leb, leb-true, eqb-true, ne_eqb, true≢false, append_assoc}
use Rattle.std.specs.Prelude.{slice_index, count_by}
use Rattle.std.specs.List.{list_all, join_with_byte, onto_first, before_first, after_first, position_or_len, prefix_len}
use Rattle.std.specs.Char.{is_ascii_digit}
use Rattle.std.specs.Str.Parse.{digits_value}
use Rattle.std.specs.Fmt.{decimal}
use Rattle.std.proofs.lemmas.Fmt.{decimal_digit, digits_decimal, digits_value-decimal, decimal_nonempty, first_decimal}
use Rattle.std.proofs.lemmas.Fmt.{decimal-digits_value}
use Rattle.std.proofs.lemmas.List.{take_at, drop_at, take_more, drop_all, length-map, length_push, length-take-le}
use Rattle.std.proofs.lemmas.List.{map-append}
use Rattle.std.proofs.lemmas.List.Folds.{list_all-append}
use Rattle.std.proofs.lemmas.List.Sums.{split_at_first, prefix_len_stops}
use Rattle.std.proofs.lemmas.List.Splits.{length-slice_split, join_with_byte-slice_split}
use Rattle.std.proofs.lemmas.Bool.{and_parts, and_from, cases_lt, not-false, not-true}
use Rattle.u1_base.specs.Ids.{is_allowed, is_id}
use Rattle.u1_base.specs.declared.ids.Form.TheVariants as form_of
use Rattle.u1_base.specs.declared.limits.TheConstants.{GREATEST_COUNT}
use Rattle.vector_rev.specs.Counts.{Uid, Entries}
use Rattle.vector_rev.proofs.Truths.{both, true_T}
use Rattle.vector_rev.specs.Clock.{is_entry, is_limited}
use Rattle.vector_rev.specs.ClockText.{entry_text, entries_text, parts_of, is_numeral, is_counter, is_entry_text}
use Rattle.vector_rev.specs.ClockText.{entry_of}
use Rattle.vector_rev.specs.inner.Parts.{separated}
use Rattle.vector_rev.proofs.Reading.{own_numerals, some_digits}

-- a byte of the alphabet is no byte outside it
not_outside : (b c : ℕ) → is_allowed form_of.Replica b ≡ true → is_allowed form_of.Replica c ≡ false → eqb b c ≡ false
not_outside b c h g =
    elim (eqb b c) as (λ t. eqb b c ≡ t → t ≡ false) [
      | true ↦ λ t. absurd (true≢false (sym h ∙ ap (is_allowed form_of.Replica) (eqb-true b c t) ∙ g))
      | false ↦ λ _. refl
    ] refl

digit_no_bar : (b : ℕ) → is_ascii_digit b ≡ true → eqb b 124 ≡ false
digit_no_bar b h = elim (eqb b 124) as (λ t. eqb b 124 ≡ t → t ≡ false) [
  | true ↦ λ t. absurd (true≢false (sym h ∙ ap is_ascii_digit (eqb-true b 124 t)))
  | false ↦ λ _. refl
] refl

uid_allowed : (u : Uid) → is_id form_of.Replica u ≡ true → list_all (is_allowed form_of.Replica) u ≡ true
uid_allowed u h = (and_parts (leb 1 (length u) && leb (length u) 64) _ h).1

-- ---- where a part is cut

colon_at : (u ds : List ℕ) → list_all (is_allowed form_of.Replica) u ≡ true
    → position_or_len (λ b. eqb b 58) (u ++ 58 ∷ ds) ≡ length u
colon_at [] ds h = refl
colon_at (b ∷ u) ds h =
    let parts = and_parts (is_allowed form_of.Replica b) (list_all (is_allowed form_of.Replica) u) h in
    ap (λ t. cond (not t) (1 + prefix_len (λ x. not (eqb x 58)) (u ++ 58 ∷ ds)) 0) (not_outside b 58 parts.0 refl)
    ∙ ap (λ n. 1 + n) (colon_at u ds parts.1) ∙ one_more (length u)
  where
    one_more : (n : ℕ) → 1 + n ≡ suc n
    one_more n = omega arith

uid_of_text : (u ds : List ℕ) → list_all (is_allowed form_of.Replica) u ≡ true
    → before_first (λ b. eqb b 58) (u ++ 58 ∷ ds) ≡ u
uid_of_text u ds h = ap (λ k. take k (u ++ 58 ∷ ds)) (colon_at u ds h) ∙ take_at u (58 ∷ ds) (length u) refl

digits_of_text : (u ds : List ℕ) → list_all (is_allowed form_of.Replica) u ≡ true
    → after_first (λ b. eqb b 58) (u ++ 58 ∷ ds) ≡ ds
digits_of_text u ds h =
    ap (λ k. drop (k + 1) (u ++ 58 ∷ ds)) (colon_at u ds h)
    ∙ ap (drop (length u + 1)) (sym (append_assoc u (58 ∷ []) ds))
    ∙ drop_at (u ++ 58 ∷ []) ds (length u + 1) (length_push u 58)

-- a counter's decimal text is a counter
is_counter-decimal : (n : ℕ) → 1 ≤ n → n < 2 ^ 63 → is_counter (decimal n) ≡ true
is_counter-decimal n low high =
    let fits : n < 2 ^ 64 = omega arith in
    and_from (is_numeral (decimal n)) _
    (and_from (list_all is_ascii_digit (decimal n) && leb 1 (length (decimal n))) _
    (and_from (list_all is_ascii_digit (decimal n)) _ (digits_decimal own_numerals n fits)
    (le-leb 1 (length (decimal n)) (decimal_nonempty n fits)))
    (ap not (ne_eqb (slice_index (decimal n) 0) 48 (above (get_or (decimal n) 0 0) (first_decimal n low fits)))))
    (ap (λ k. leb k GREATEST_COUNT) (digits_value-decimal own_numerals n fits)
    ∙ le-leb n GREATEST_COUNT (omega (arith, high)))
  where
    above : (b : ℕ) → 48 < b → b ≡ 48 → ⊥
    above b h e = omega arith

entry_parts : (e : Uid × ℕ) → is_entry e ≡ true → (is_id form_of.Replica e.0 ≡ true) × (1 ≤ e.1) × (e.1 < 2 ^ 63)
entry_parts e h =
    let outer = and_parts (is_id form_of.Replica e.0 && leb 1 e.1) (leb e.1 GREATEST_COUNT) h in
    let inner = and_parts (is_id form_of.Replica e.0) (leb 1 e.1) outer.0 in
    (inner.0, leb-true 1 e.1 inner.1, omega (arith, leb-true e.1 GREATEST_COUNT outer.1))

-- the text of an entry is one, of that entry
pub is_entry_text-entry_text : (e : Uid × ℕ) → is_entry e ≡ true → is_entry_text (entry_text e) ≡ true
is_entry_text-entry_text e h =
    let p = entry_parts e h in
    and_from (is_id form_of.Replica (before_first (λ b. eqb b 58) (entry_text e))) _
    (ap (is_id form_of.Replica) (uid_of_text e.0 (decimal e.1) (uid_allowed e.0 p.0)) ∙ p.0)
    (ap is_counter (digits_of_text e.0 (decimal e.1) (uid_allowed e.0 p.0)) ∙ is_counter-decimal e.1 p.1 p.2)

pub entry_of-entry_text : (e : Uid × ℕ) → is_entry e ≡ true → entry_of (entry_text e) ≡ e
entry_of-entry_text e h =
    let p = entry_parts e h in
    let small : e.1 < 2 ^ 64 = omega (arith, p.2) in
    λ i. (
      uid_of_text e.0 (decimal e.1) (uid_allowed e.0 p.0) i,
      (ap (digits_value 10) (digits_of_text e.0 (decimal e.1) (uid_allowed e.0 p.0))
          ∙ digits_value-decimal own_numerals e.1 small) i,
    )

no_zero : (b : ℕ) → b ≡ 48 → not (eqb b 48) ≡ true → ⊥
no_zero b e n = true≢false (sym (ap (λ c. not (eqb c 48)) (sym e) ∙ n))

-- a part that is an entry is the text of that entry, and the entry keeps the limits
pub entry_text-entry_of : (part : List ℕ) → is_entry_text part ≡ true → part ≡ entry_text (entry_of part)
entry_text-entry_of part h =
    let digits = after_first (λ b. eqb b 58) part in
    let counter : is_counter digits ≡ true =
    (and_parts (is_id form_of.Replica (before_first (λ b. eqb b 58) part)) _ h).1 in
    let numeral = and_parts (is_numeral digits) (leb (digits_value 10 digits) GREATEST_COUNT) counter in
    let some = some_digits digits numeral.0 in
    let lead : not (eqb (slice_index digits 0) 48) ≡ true =
    (and_parts (list_all is_ascii_digit digits && leb 1 (length digits)) _ numeral.0).1 in
    let small : digits_value 10 digits < 2 ^ 63 =
    omega (arith, leb-true (digits_value 10 digits) GREATEST_COUNT numeral.1) in
    let same : decimal (digits_value 10 digits) ≡ digits =
    decimal-digits_value own_numerals digits some.0 (omega (arith, some.1))
    (λ zero. absurd (no_zero (get_or digits 0 0) zero lead)) (omega (arith, small)) in
    let there : position_or_len (λ b. eqb b 58) part < length part = colon_there part some.1 in
    split_at_first (λ b. eqb b 58) part 0 there
    ∙ ap₂ (λ (c : ℕ) (ds : List ℕ). before_first (λ b. eqb b 58) part ++ c ∷ ds)
    (eqb-true _ 58 (colon_passes part there)) (sym same)
  where
    colon_there : (xs : List ℕ) → 1 ≤ length (after_first (λ b. eqb b 58) xs)
        → position_or_len (λ b. eqb b 58) xs < length xs
    colon_there xs some =
        elim (cases_lt (position_or_len (λ b. eqb b 58) xs) (length xs)) [
          | inl low ↦ low
          | inr high ↦ absurd (omega (
            arith,
            some,
            ap (λ (ds : List ℕ). length ds)
                (drop_all (position_or_len (λ b. eqb b 58) xs + 1) xs (omega (arith, high))),
          ))
        ]

    colon_passes : (xs : List ℕ) → position_or_len (λ b. eqb b 58) xs < length xs
        → eqb (get_or xs (position_or_len (λ b. eqb b 58) xs) 0) 58 ≡ true
    colon_passes xs there = not-false _ (prefix_len_stops (λ b. not (eqb b 58)) xs 0 there)

-- the number of a numeral is not 0: else its text would be `0`
number_low : (ds : List ℕ) → is_numeral ds ≡ true → digits_value 10 ds < 2 ^ 63 → 1 ≤ digits_value 10 ds
number_low ds numeral small =
    let some = some_digits ds numeral in
    let lead : not (eqb (slice_index ds 0) 48) ≡ true =
    (and_parts (list_all is_ascii_digit ds && leb 1 (length ds)) _ numeral).1 in
    let same : decimal (digits_value 10 ds) ≡ ds =
    decimal-digits_value own_numerals ds some.0 (omega (arith, some.1))
    (λ zero. absurd (no_zero (get_or ds 0 0) zero lead)) (omega (arith, small)) in
    elim (cases_lt 0 (digits_value 10 ds)) [
      | inl low ↦ omega (arith, low)
      | inr high ↦ absurd (no_zero (get_or ds 0 0)
          (ap (λ xs. get_or xs 0 0) (sym same ∙ ap decimal (none (digits_value 10 ds) high)
          ∙ decimal_digit 0 (omega arith))) lead)
    ]
  where
    none : (n : ℕ) → n ≤ 0 → n ≡ 0
    none n h = omega arith

-- a part that is an entry spells one that keeps the limits
pub is_entry-entry_of : (part : List ℕ) → is_entry_text part ≡ true → is_entry (entry_of part) ≡ true
is_entry-entry_of part h =
    let digits = after_first (λ b. eqb b 58) part in
    let parts = and_parts (is_id form_of.Replica (before_first (λ b. eqb b 58) part)) _ h in
    let numeral = and_parts (is_numeral digits) (leb (digits_value 10 digits) GREATEST_COUNT) parts.1 in
    let small : digits_value 10 digits < 2 ^ 63 =
    omega (arith, leb-true (digits_value 10 digits) GREATEST_COUNT numeral.1) in
    and_from (is_id form_of.Replica (before_first (λ b. eqb b 58) part) && leb 1 (digits_value 10 digits)) _
    (and_from (is_id form_of.Replica (before_first (λ b. eqb b 58) part)) _ parts.0
    (le-leb 1 (digits_value 10 digits) (number_low digits numeral.0 small)))
    numeral.1

-- ---- all parts of a text

abbrev has_no_bar : List ℕ → Bool
has_no_bar xs = list_all (λ b. not (eqb b 124)) xs

split_front : (xs ys : List ℕ) → has_no_bar xs ≡ true → parts_of (xs ++ 124 ∷ ys) ≡ xs ∷ parts_of ys
split_front [] ys h = refl
split_front (x ∷ xs) ys h =
    let parts = and_parts (not (eqb x 124)) (has_no_bar xs) h in
    ap (λ b. cond b ([] ∷ parts_of (xs ++ 124 ∷ ys)) (onto_first x (parts_of (xs ++ 124 ∷ ys)))) (not-true _ parts.0)
    ∙ ap (onto_first x) (split_front xs ys parts.1)

split_last : (xs : List ℕ) → has_no_bar xs ≡ true → parts_of xs ≡ xs ∷ []
split_last [] h = refl
split_last (x ∷ xs) h =
    let parts = and_parts (not (eqb x 124)) (has_no_bar xs) h in
    ap (λ b. cond b ([] ∷ parts_of xs) (onto_first x (parts_of xs))) (not-true _ parts.0)
    ∙ ap (onto_first x) (split_last xs parts.1)

each_no_bar : (p : ℕ → Bool) → ((b : ℕ) → p b ≡ true → eqb b 124 ≡ false) → (xs : List ℕ) → list_all p xs ≡ true
    → has_no_bar xs ≡ true
each_no_bar p none [] h = refl
each_no_bar p none (x ∷ xs) h =
    let parts = and_parts (p x) (list_all p xs) h in
    ap₂ (λ a b. a && b) (ap not (none x parts.0)) (each_no_bar p none xs parts.1)

no_bar-entry_text : (e : Uid × ℕ) → is_entry e ≡ true → has_no_bar (entry_text e) ≡ true
no_bar-entry_text e h =
    let p = entry_parts e h in
    let small : e.1 < 2 ^ 64 = omega (arith, p.2) in
    list_all-append (λ b. not (eqb b 124)) e.0 (58 ∷ decimal e.1)
    ∙ ap₂ (λ a b. a && b) (each_no_bar (is_allowed form_of.Replica) (λ b a. not_outside b 124 a refl) e.0
    (uid_allowed e.0 p.0))
    (each_no_bar is_ascii_digit digit_no_bar (decimal e.1) (digits_decimal own_numerals e.1 small))

-- the parts of the text of entries are the texts of the entries
pub parts_of-entries_text : (e : Uid × ℕ) (es : Entries) → list_all is_entry (e ∷ es) ≡ true
    → parts_of (entries_text (e ∷ es)) ≡ map entry_text (e ∷ es)
parts_of-entries_text e [] h = split_last (entry_text e) (no_bar-entry_text e (and_parts (is_entry e) true h).0)
parts_of-entries_text e (f ∷ es) h =
    let parts = and_parts (is_entry e) (list_all is_entry (f ∷ es)) h in
    split_front (entry_text e) (entries_text (f ∷ es)) (no_bar-entry_text e parts.0)
    ∙ ap (λ r. entry_text e ∷ r) (parts_of-entries_text f es parts.1)

-- good parts are the texts of what they spell
spelled : (parts : List (List ℕ)) → list_all is_entry_text parts ≡ true → map entry_text (map entry_of parts) ≡ parts
spelled [] h = refl
spelled (p ∷ ps) h =
    let both = and_parts (is_entry_text p) (list_all is_entry_text ps) h in
    ap₂ (λ q qs. q ∷ qs) (sym (entry_text-entry_of p both.0)) (spelled ps both.1)

good_entries : (parts : List (List ℕ)) → list_all is_entry_text parts ≡ true
    → list_all is_entry (map entry_of parts) ≡ true
good_entries [] h = refl
good_entries (p ∷ ps) h =
    let both = and_parts (is_entry_text p) (list_all is_entry_text ps) h in
    ap₂ (λ a b. a && b) (is_entry-entry_of p both.0) (good_entries ps both.1)

-- a text whose parts are entries is the text of these entries
pub entries_text-parts : (text : List ℕ) (es : Entries) → list_all is_entry_text (parts_of text) ≡ true
    → es ≡ map entry_of (parts_of text) → text ≡ entries_text es
entries_text-parts text es good e =
    sym (join_with_byte-slice_split 124 text) ∙ ap (join_with_byte 124) (sym (spelled (parts_of text) good))
    ∙ ap (λ fs. join_with_byte 124 (map entry_text fs)) (sym e)

pub length-parts_of : (text : List ℕ) → length (parts_of text) ≡ count_by (λ b. eqb b 124) text + 1
length-parts_of text = length-slice_split (λ b. eqb b 124) text

-- entries of good parts, of which there are at most 64, keep the limits
pub is_limited-parts : (text : List ℕ) (es : Entries) → list_all is_entry_text (parts_of text) ≡ true
    → es ≡ map entry_of (parts_of text) → length (parts_of text) ≤ 64 → T (is_limited es)
is_limited-parts text es good e few =
    let long : length es ≡ length (parts_of text) = ap length e ∙ length-map (parts_of text) entry_of in
    both _ _ (both _ _ (true_T _ (ap (list_all is_entry) e ∙ good_entries (parts_of text) good))
    (true_T _ (le-leb 1 (length es) (omega (arith, long, length-parts_of text)))))
    (true_T _ (le-leb (length es) 64 (omega (arith, long, few))))

-- ---- one more entry at the end of a text

join_push : (q p : List ℕ) (ps : List (List ℕ))
    → join_with_byte 124 ((p ∷ ps) ++ q ∷ []) ≡ join_with_byte 124 (p ∷ ps) ++ 124 ∷ q
join_push q p [] = refl
join_push q p (r ∷ ps) =
    ap (λ t. p ++ 124 ∷ t) (join_push q r ps) ∙ sym (append_assoc p (124 ∷ join_with_byte 124 (r ∷ ps)) (124 ∷ q))

one_more_text : (i : ℕ) (front : Entries) (e : Uid × ℕ) → length front ≡ i
    → entries_text (front ++ e ∷ []) ≡ entries_text front ++ separated i e
one_more_text i [] e long = ap (λ n. cond (eqb n 0) (entry_text e) (124 ∷ entry_text e)) long
one_more_text i (f ∷ front) e long =
    ap (join_with_byte 124) (map-append entry_text (f ∷ front) (e ∷ []))
    ∙ join_push (entry_text e) (entry_text f) (map entry_text front)
    ∙ ap (λ b. entries_text (f ∷ front) ++ cond b (entry_text e) (124 ∷ entry_text e))
    (sym (ne_eqb i 0 (not_zero i (length front) long)))
  where
    not_zero : (n m : ℕ) → suc m ≡ n → n ≡ 0 → ⊥
    not_zero n m e z = omega arith

pub entries_text_more : (es : Entries) (i : ℕ) (e : Uid × ℕ) (out after : List ℕ) → i < length es → e ≡ get_or es i e
    → out ≡ entries_text (take i es) → after ≡ out ++ separated i e → after ≡ entries_text (take (i + 1) es)
entries_text_more es i e out after below at is pushed =
    pushed ∙ ap (λ (t : List ℕ). t ++ separated i e) is
    ∙ sym (one_more_text i (take i es) e (length-take-le i es (omega arith)))
    ∙ ap (λ (f : Uid × ℕ). entries_text (take i es ++ f ∷ [])) at
    ∙ ap entries_text (sym (take_more es i e below))
