-- The text of a clock reads as that clock and no other.
use Rattle.std.proofs.Common.{◌≡◌, ◌≢◌, ℕ, zero, suc, ◌+◌, ◌≤◌, Bool, true, false, cond, Option, Some, None, Result, Ok}
use Rattle.std.proofs.Common.{Err, ◌&&◌, T, List, [], ◌∷◌, length, take, map, refl, sym, ◌∙◌, ap, ap₂, subst, arith}
use Rattle.std.proofs.Common.{true≢false}
use Rattle.std.specs.List.{list_all}
use Rattle.std.specs.Ordering.{is_lt}
use Rattle.std.specs.FinMap.Entries.{is_sorted, below_all}
use Rattle.std.proofs.lemmas.Bool.{and_parts}
use Rattle.std.proofs.lemmas.List.{length-map}
use Rattle.vector_rev.specs.Counts.{Uid, Entries}
use Rattle.u1_base.specs.Ids.{id_cmp}
use Rattle.vector_rev.proofs.Truths.{both, first, second, T_true}
use Rattle.vector_rev.specs.Clock.{Clock, is_entry, is_clock, clock_if, clock_of}
use Rattle.vector_rev.specs.Stored.{same_record}
use Rattle.vector_rev.specs.ClockText.{clock_text, entries_text, entry_text, entry_of, parts_of, is_entry_text}
use Rattle.vector_rev.specs.ClockText.{IsTextFault, ReadsClock, clock_in}
use Rattle.vector_rev.specs.declared.read.ClockFault.{ClockFault}
use Rattle.vector_rev.specs.declared.read.ClockFault.TheVariants as fault
use Rattle.vector_rev.proofs.ClockLaws.{entries_of, some_entry, few_entries}
use Rattle.vector_rev.proofs.Reading.{ReadsText, fails-position}
use Rattle.vector_rev.proofs.Spelling.{parts_of-entries_text, is_entry_text-entry_text, entry_of-entry_text}
use Rattle.vector_rev.proofs.Spelling.{entries_text-parts}

parts_at : (es : Entries) → 1 ≤ length es → list_all is_entry es ≡ true → parts_of (entries_text es) ≡ map entry_text es
parts_at [] some h = absurd (omega arith)
parts_at (e ∷ es) some h = parts_of-entries_text e es h

all_entry_texts : (es : Entries) → list_all is_entry es ≡ true → list_all is_entry_text (map entry_text es) ≡ true
all_entry_texts [] h = refl
all_entry_texts (e ∷ es) h =
    let parts = and_parts (is_entry e) (list_all is_entry es) h in
    ap₂ (λ a b. a && b) (is_entry_text-entry_text e parts.0) (all_entry_texts es parts.1)

read_back : (es : Entries) → list_all is_entry es ≡ true → map entry_of (map entry_text es) ≡ es
read_back [] h = refl
read_back (e ∷ es) h =
    let parts = and_parts (is_entry e) (list_all is_entry es) h in
    ap₂ (λ f fs. f ∷ fs) (entry_of-entry_text e parts.0) (read_back es parts.1)

below_take : (u : Uid) (k : ℕ) (es : Entries) → T (below_all id_cmp u es) → T (below_all id_cmp u (take k es))
below_take u zero es h = tt
below_take u (suc k) [] h = tt
below_take u (suc k) (e ∷ es) h = both _ _ (first _ _ h) (below_take u k es (second (is_lt (id_cmp u e.0)) _ h))

sorted_take : (k : ℕ) (es : Entries) → T (is_sorted id_cmp es) → T (is_sorted id_cmp (take k es))
sorted_take zero es h = tt
sorted_take (suc k) [] h = tt
sorted_take (suc k) (e ∷ es) h = both _ _ (below_take e.0 k es (first _ _ h))
    (sorted_take k es (second (below_all id_cmp e.0 es) _ h))

parts_of_clock : (x : Clock) → parts_of (clock_text x) ≡ map entry_text x.entries
parts_of_clock x = parts_at x.entries (some_entry x) (T_true _ (entries_of x))

good_clock : (x : Clock) → list_all is_entry_text (parts_of (clock_text x)) ≡ true
good_clock x = ap (list_all is_entry_text) (parts_of_clock x) ∙ all_entry_texts x.entries (T_true _ (entries_of x))

entries_of_clock : (x : Clock) → map entry_of (parts_of (clock_text x)) ≡ x.entries
entries_of_clock x = ap (map entry_of) (parts_of_clock x) ∙ read_back x.entries (T_true _ (entries_of x))

-- the text of a clock has no fault
pub clock_text_no_fault : (x : Clock) (f : ClockFault) → IsTextFault (clock_text x) f → f ≡ fault.Memory
clock_text_no_fault x fault.Empty h =
    absurd (true≢false (sym (ap (λ t. list_all is_entry_text (parts_of t)) (sym h) ∙ good_clock x)))
clock_text_no_fault x fault.TooMany h =
    absurd (omega (
      arith,
      h,
      ap (λ (ps : List (List ℕ)). length ps) (parts_of_clock x),
      length-map x.entries entry_text,
      few_entries x,
    ))
clock_text_no_fault x (fault.BadEntry i) h =
    absurd (true≢false (sym (good_clock x) ∙ fails-position is_entry_text (parts_of (clock_text x)) i h.2))
clock_text_no_fault x (fault.NotSorted i) h =
    absurd (true≢false (sym (T_true _ (sorted_take (i + 1) x.entries (first _ _ x.well)))
    ∙ ap (λ es. is_sorted id_cmp (take (i + 1) es)) (sym (entries_of_clock x)) ∙ h.3.unsorted))
clock_text_no_fault x fault.Memory h = refl

-- clocks with one text are one clock
pub clock_text_apart : (x y : Clock) → clock_text x ≡ clock_text y → x ≡ y
clock_text_apart x y e = same_record x y (sym (entries_of_clock x) ∙ ap (λ t. map entry_of (parts_of t)) e
    ∙ entries_of_clock y)

-- ---- reading as a function

clock_if-is : (x : Clock) (es : Entries) (b : Bool) (kept : is_clock es ≡ b) → es ≡ x.entries
    → clock_if es b kept ≡ Some x
clock_if-is x es true kept same = ap Some (same_record _ x same)
clock_if-is x es false kept same = absurd (true≢false (sym (T_true _ x.well) ∙ ap is_clock (sym same) ∙ kept))

-- the entries of a clock are those of that clock
pub clock_of-entries : (x : Clock) (es : Entries) → es ≡ x.entries → clock_of es ≡ Some x
clock_of-entries x es same = clock_if-is x es (is_clock es) refl same

clock_if-entries : (x : Clock) (es : Entries) (b : Bool) (kept : is_clock es ≡ b) → clock_if es b kept ≡ Some x
    → es ≡ x.entries
clock_if-entries x es true kept h = ap (λ (o : Option Clock). entries_in o) h
  where
    entries_in : Option Clock → Entries
    entries_in None = es
    entries_in (Some y) = y.entries
clock_if-entries x es false kept h = absurd (cc h)

-- and a clock of entries has these entries
pub entries-clock_of : (x : Clock) (es : Entries) → clock_of es ≡ Some x → es ≡ x.entries
entries-clock_of x es h = clock_if-entries x es (is_clock es) refl h

-- entries that are not a clock's are those of no clock
clock_if-none : (es : Entries) (b : Bool) (kept : is_clock es ≡ b) → b ≡ false → clock_if es b kept ≡ None
clock_if-none es true kept failed = absurd (true≢false failed)
clock_if-none es false kept failed = refl

pub clock_of-none : (es : Entries) → is_clock es ≡ false → clock_of es ≡ None
clock_of-none es h = clock_if-none es (is_clock es) refl h

-- the text of a clock reads as that clock
pub reads_back : (x : Clock) → clock_in (clock_text x) ≡ Some x
reads_back x =
    ap (λ b. cond b (clock_of (map entry_of (parts_of (clock_text x)))) None) (good_clock x)
    ∙ clock_of-entries x (map entry_of (parts_of (clock_text x))) (entries_of_clock x)

-- and what reads as a clock is its text
pub reads_only : (text : List ℕ) (x : Clock) → clock_in text ≡ Some x → text ≡ clock_text x
reads_only text x h =
    elim (list_all is_entry_text (parts_of text)) as
    (λ b. list_all is_entry_text (parts_of text) ≡ b → cond b (clock_of (map entry_of (parts_of text))) None ≡ Some x
    → text ≡ clock_text x) [
      | true ↦ λ good some. entries_text-parts text x.entries good
          (sym (entries-clock_of x (map entry_of (parts_of text)) some))
      | false ↦ λ _ some. absurd (cc some)
    ] refl h

-- a text with a fault reads as none
pub fault_reads_none : (text : List ℕ) (f : ClockFault) → f ≢ fault.Memory → IsTextFault text f → clock_in text ≡ None
fault_reads_none text f other is =
    elim (clock_in text) as (λ o. clock_in text ≡ o → o ≡ None) [
      | None ↦ λ _. refl
      | Some x ↦ λ some. absurd
          (other (clock_text_no_fault x f (subst (λ (t : List ℕ). IsTextFault t f) (reads_only text x some) is)))
    ] refl

-- what the reader found out, said of the reading function
pub reads_clock : (text : List ℕ) (r : Result Clock ClockFault) → ReadsText text r → ReadsClock text r
reads_clock text (Ok x) is = ap clock_in is ∙ reads_back x
reads_clock text (Err f) is = (is, λ other. fault_reads_none text f other is)
