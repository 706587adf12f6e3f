-- The text of a clock is ASCII and short.
use Rattle.std.proofs.Common.{◌≡◌, ℕ, ◌*◌, ◌^◌, ◌<◌, ◌≤◌, Bool, true, nat_lt, nat_le, ◌&&◌, List, [], ◌∷◌, length, map}
use Rattle.std.proofs.Common.{decimal, IsUtf8, refl, arith}
use Rattle.std.specs.List.{list_all, join_with_byte}
use Rattle.std.specs.Char.{is_ascii_digit}
use Rattle.std.proofs.lemmas.Bool.{and_parts, and_from, leb-true, lt-ltb}
use Rattle.std.proofs.lemmas.Fmt.{length-decimal-le}
use Rattle.std.proofs.lemmas.List.{length-append}
use Rattle.json.proofs.Printed.Utf8.{are_ascii, IsUtf8-are_ascii}
use Rattle.u1_base.specs.Ids.{IsId, is_allowed, is_id}
use Rattle.u1_base.specs.declared.ids.Form.TheVariants.{Replica}
use Rattle.u1_base.specs.declared.limits.TheConstants.{GREATEST_COUNT}
use Rattle.u1_base.proofs.IdFacts.{id_facts}
use Rattle.vector_rev.specs.Counts.{Uid, Entries}
use Rattle.vector_rev.specs.Clock.{Clock, is_entry}
use Rattle.vector_rev.specs.ClockText.{clock_text, entry_text}
use Rattle.vector_rev.proofs.ClockLaws.{entries_of, few_entries}
use Rattle.vector_rev.proofs.Truths.{T_true}
use Rattle.sync_http.proofs.HeadBytes.{both_pass, weaker, digits_pass}
use Rattle.sync_http.proofs.PositionsBack.{small}

abbrev is_ascii : ℕ → Bool
is_ascii b = nat_lt b 128

digit_ascii : (b : ℕ) → is_ascii_digit b ≡ true → is_ascii b ≡ true
digit_ascii b e = let less : b < 128 = grind (arith, e) in lt-ltb b 128 less

uid_ascii : (b : ℕ) → is_allowed Replica b ≡ true → is_ascii b ≡ true
uid_ascii b e = lt-ltb b 128 (small Replica b e)

-- what an entry is
entry_is : (e : Uid × ℕ) → is_entry e ≡ true → IsId Replica e.0 × (e.1 < 2 ^ 63)
entry_is e h =
    let outer = and_parts (is_id Replica e.0 && nat_le 1 e.1) (nat_le e.1 GREATEST_COUNT) h in
    let most = leb-true e.1 GREATEST_COUNT outer.1 in
    ((and_parts (is_id Replica e.0) (nat_le 1 e.1) outer.0).0, omega (arith, most))

entry_ascii : (e : Uid × ℕ) → is_entry e ≡ true → list_all is_ascii (entry_text e) ≡ true
entry_ascii e h =
    let is = entry_is e h in
    let below = is.1 in
    both_pass is_ascii e.0 (58 ∷ decimal e.1)
    (weaker (is_allowed Replica) is_ascii uid_ascii e.0 (id_facts Replica e.0 is.0).2)
    (weaker is_ascii_digit is_ascii digit_ascii (decimal e.1) (digits_pass e.1 (omega (arith, below))))

entry_length : (e : Uid × ℕ) → is_entry e ≡ true → length (entry_text e) ≤ 84
entry_length e h =
    let is = entry_is e h in
    let below = is.1 in
    let uid = (id_facts Replica e.0 is.0).1 in
    let count = length-decimal-le 19 e.1 (omega arith) (omega (arith, below)) (omega (arith, below)) in
    omega (arith, uid, count, length-append e.0 (58 ∷ decimal e.1))

joined_ascii : (es : Entries) → list_all is_entry es ≡ true
    → list_all is_ascii (join_with_byte 124 (map entry_text es)) ≡ true
joined_ascii [] h = refl
joined_ascii (e ∷ []) h = entry_ascii e (and_parts (is_entry e) _ h).0
joined_ascii (e ∷ f ∷ es) h =
    let parts = and_parts (is_entry e) (list_all is_entry (f ∷ es)) h in
    both_pass is_ascii (entry_text e) (124 ∷ join_with_byte 124 (map entry_text (f ∷ es))) (entry_ascii e parts.0)
    (joined_ascii (f ∷ es) parts.1)

joined_length : (es : Entries) → list_all is_entry es ≡ true
    → length (join_with_byte 124 (map entry_text es)) ≤ 85 * length es
joined_length [] h = omega arith
joined_length (e ∷ []) h = let one = entry_length e (and_parts (is_entry e) _ h).0 in omega (arith, one)
joined_length (e ∷ f ∷ es) h =
    let parts = and_parts (is_entry e) (list_all is_entry (f ∷ es)) h in
    let one = entry_length e parts.0 in
    let rest = joined_length (f ∷ es) parts.1 in
    omega (arith, one, rest, length-append (entry_text e) (124 ∷ join_with_byte 124 (map entry_text (f ∷ es))))

same_ascii : (xs : List ℕ) → list_all is_ascii xs ≡ true → are_ascii xs ≡ true
same_ascii [] h = refl
same_ascii (x ∷ xs) h = let parts = and_parts (is_ascii x) (list_all is_ascii xs) h
    in and_from _ _ parts.0 (same_ascii xs parts.1)

pub IsUtf8-clock_text : (x : Clock) → IsUtf8 (clock_text x)
IsUtf8-clock_text x = IsUtf8-are_ascii (clock_text x)
    (same_ascii (clock_text x) (joined_ascii x.entries (T_true _ (entries_of x))))

pub length-clock_text : (x : Clock) → length (clock_text x) ≤ 5440
length-clock_text x =
    let all = joined_length x.entries (T_true _ (entries_of x)) in
    let few = few_entries x in
    omega (arith, all, few)
