-- Ids, clocks and expressions are UTF-8, so that bytes that are not are none; and when a text is a canonical one.
use Rattle.std.proofs.Common.{◌≡◌, ℕ, zero, suc, ◌<◌, Bool, true, false, cond, List, [], ◌∷◌, length, get_or, Option}
use Rattle.std.proofs.Common.{Some, None, refl, sym, ap, ◌∙◌, subst, ⊎_elim, arith}
use Rattle.std.specs.Char.{is_ascii_digit}
use Rattle.std.specs.Fmt.{decimal}
use Rattle.std.specs.List.{list_all}
use Rattle.std.specs.Str.{IsUtf8, bytes_eq}
use Rattle.std.proofs.lemmas.Bool.{and_parts, cases_lt, leb-true}
use Rattle.std.proofs.lemmas.Bool.Decides.{nat_tests}
use Rattle.std.proofs.lemmas.Fmt.{digits_decimal}
use Rattle.std.proofs.lemmas.List.{get_or_past}
use Rattle.std.proofs.lemmas.Slice.Eq.{bytes_eq-Decides}
use Rattle.std.proofs.lemmas.Str.{IsUtf8-from_ascii, IsUtf8-append, IsUtf8-nil}
use Rattle.std.specs.Prelude.{nat_le, ◌&&◌}
use Rattle.u1_base.specs.Ids.{IsId, id_in, is_allowed, is_id}
use Rattle.u1_base.specs.declared.ids.Form.{Form}
use Rattle.u1_base.specs.declared.ids.Form.TheVariants as form_of
use Rattle.u1_base.specs.declared.limits.TheConstants.{GREATEST_COUNT}
use Rattle.u1_base.proofs.Alphabets.{IsUtf8-from_allowed}
use Rattle.u1_base.proofs.IdFacts.{id_facts}
use Rattle.expr_parser.specs.Forms.{Form as Expression}
use Rattle.expr_parser.specs.Canonical.{canonical}
use Rattle.expr_parser.specs.Reading.{expr_in, is_spelled, spells_back}
use Rattle.expr_parser.proofs.ReadBack.{expr_in-None}
use Rattle.vector_rev.specs.Counts.{Uid, Entries}
use Rattle.vector_rev.specs.Clock.{Clock, is_entry}
use Rattle.vector_rev.specs.ClockText.{clock_in, entries_text, entry_text}
use Rattle.vector_rev.proofs.Truths.{T_true}
use Rattle.vector_rev.proofs.ClockLaws.{entries_of}
use Rattle.vector_rev.proofs.Reading.{own_numerals}
use Rattle.vector_rev.proofs.RoundTrip.{reads_only}
use Rattle.record_fields.specs.Plain.{expression_in}

-- ---- ASCII

all_at : (p : ℕ → Bool) (xs : List ℕ) (k : ℕ) → k < length xs → list_all p xs ≡ true → p (get_or xs k 0) ≡ true
all_at p [] k h e = absurd (omega (arith, h))
all_at p (x ∷ xs) zero h e = (and_parts (p x) (list_all p xs) e).0
all_at p (x ∷ xs) (suc k) h e = all_at p xs k (omega (arith, h)) (and_parts (p x) (list_all p xs) e).1

ascii_utf8 : (p : ℕ → Bool) → ((b : ℕ) → p b ≡ true → b < 128) → (xs : List ℕ) → list_all p xs ≡ true → IsUtf8 xs
ascii_utf8 p small xs e =
    IsUtf8-from_ascii xs
    (λ k. ⊎_elim (λ inside. small (get_or xs k 0) (all_at p xs k inside e))
    (λ past. let zero_there : get_or xs k 0 ≡ 0 = get_or_past xs k 0 past in omega (arith, zero_there))
    (cases_lt k (length xs)))

-- ---- ids

pub id_utf8 : (form : Form) (text : List ℕ) → IsId form text → IsUtf8 text
id_utf8 form text i = IsUtf8-from_allowed form text (id_facts form text i).2

-- ---- clocks

digit_ascii : (b : ℕ) → is_ascii_digit b ≡ true → b < 128
digit_ascii b e = grind (arith, nat_tests)

one_utf8 : (b : ℕ) → b < 128 → IsUtf8 (b ∷ [])
one_utf8 b small = IsUtf8-from_ascii (b ∷ []) at
  where
    at : (k : ℕ) → get_or (b ∷ []) k 0 < 128
    at zero = small
    at (suc k) = omega arith

entry_utf8 : (e : Uid × ℕ) → is_entry e ≡ true → IsUtf8 (entry_text e)
entry_utf8 e is =
    let outer = and_parts (is_id form_of.Replica e.0 && nat_le 1 e.1) (nat_le e.1 GREATEST_COUNT) is in
    let inner = and_parts (is_id form_of.Replica e.0) (nat_le 1 e.1) outer.0 in
    let small = leb-true e.1 GREATEST_COUNT outer.1 in
    let digits : list_all is_ascii_digit (decimal e.1) ≡ true = digits_decimal own_numerals e.1 (omega (arith, small))
    in
    IsUtf8-append e.0 (58 ∷ decimal e.1) (id_utf8 form_of.Replica e.0 inner.0)
    (IsUtf8-append (58 ∷ []) (decimal e.1) (one_utf8 58 (omega arith))
    (ascii_utf8 is_ascii_digit digit_ascii (decimal e.1) digits))

entries_utf8 : (es : Entries) → list_all is_entry es ≡ true → IsUtf8 (entries_text es)
entries_utf8 [] is = IsUtf8-nil
entries_utf8 (e ∷ []) is = entry_utf8 e (and_parts (is_entry e) true is).0
entries_utf8 (e ∷ f ∷ es) is =
    let parts = and_parts (is_entry e) (list_all is_entry (f ∷ es)) is in
    IsUtf8-append (entry_text e) (124 ∷ entries_text (f ∷ es)) (entry_utf8 e parts.0)
    (IsUtf8-append (124 ∷ []) (entries_text (f ∷ es)) (one_utf8 124 (omega arith)) (entries_utf8 (f ∷ es) parts.1))

pub no_clock : (text : List ℕ) → (IsUtf8 text → ⊥) → clock_in text ≡ None
no_clock text none = by (clock_in text) refl
  where
    by : (o : Option Clock) → clock_in text ≡ o → o ≡ None
    by None e = refl
    by (Some c) e = absurd (none
        (subst IsUtf8 (sym (reads_only text c e)) (entries_utf8 c.entries (T_true _ (entries_of c)))))

-- ---- expressions

pub no_expression : (s : List ℕ) → expr_in s ≡ None → expression_in s ≡ None
unfolding is_spelled
no_expression s e = ap (λ o. cond (spells_back s o) (Some s) None) e

pub no_expression_text : (s : List ℕ) → (IsUtf8 s → ⊥) → expression_in s ≡ None
no_expression_text s none = no_expression s (expr_in-None s (λ f is. none is.utf8))

pub canonical_expression : (s : List ℕ) (f : Expression) → expr_in s ≡ Some f → bytes_eq (canonical f) s ≡ true
    → expression_in s ≡ Some (canonical f)
unfolding is_spelled
canonical_expression s f e same =
    ap (λ o. cond (spells_back s o) (Some s) None) e ∙ ap (λ b. cond b (Some s) None) same
    ∙ ap Some (sym ((bytes_eq-Decides (canonical f) s).0 same))

pub other_expression : (s : List ℕ) (f : Expression) → expr_in s ≡ Some f → bytes_eq (canonical f) s ≡ false
    → expression_in s ≡ None
unfolding is_spelled
other_expression s f e other = ap (λ o. cond (spells_back s o) (Some s) None) e ∙ ap (λ b. cond b (Some s) None) other

pub ruleset no_expressions = (no_expression, no_expression_text)

pub ruleset read_expressions = (canonical_expression, other_expression)
