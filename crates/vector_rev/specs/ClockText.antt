-- How a clock is written, which clock a text spells, and why another text spells none.
use Rattle.std.specs.Prelude.{◌≡◌, ◌≢◌, ℕ, ◌+◌, ◌<◌, ◌≤◌, ◌==◌, Bool, false, not, ◌&&◌, IsTrue, nat_le, List, [], ◌∷◌}
use Rattle.std.specs.Prelude.{◌++◌, length, map, take, position, slice_index, Option, Some, None, Result, Ok}
use Rattle.std.specs.Prelude.{Err, if◌then◌else◌}
use Rattle.std.specs.List.{list_all, join_with_byte, slice_split, before_first, after_first}
use Rattle.std.specs.Char.{is_ascii_digit}
use Rattle.std.specs.Str.Parse.{digits_value}
use Rattle.std.specs.Fmt.{decimal}
use Rattle.std.specs.FinMap.Entries.{is_sorted}
use Rattle.u1_base.specs.Ids.{id_cmp, is_id}
use Rattle.u1_base.specs.declared.ids.Form.TheVariants.{Replica}
use Rattle.u1_base.specs.declared.limits.TheConstants.{GREATEST_COUNT, MOST_CLOCK_ENTRIES}
use Rattle.vector_rev.specs.Counts.{Uid, Entries}
use Rattle.vector_rev.specs.Clock.{Clock, is_entry, clock_of}
use Rattle.vector_rev.specs.declared.read.ClockFault.{ClockFault}
use Rattle.vector_rev.specs.declared.read.ClockFault.TheVariants.{Empty, TooMany, BadEntry, NotSorted, Memory}

-- an entry is `UID:COUNTER`; 58 is `:`
abbrev pub entry_text : Uid × ℕ → List ℕ
entry_text e = e.0 ++ 58 ∷ decimal e.1

-- the entries are joined by `|`, which is 124
abbrev pub entries_text : Entries → List ℕ
entries_text es = join_with_byte 124 (map entry_text es)

abbrev pub clock_text : Clock → List ℕ
clock_text x = entries_text x.entries

-- the parts of a text, cut at each `|`
abbrev pub parts_of : List ℕ → List (List ℕ)
parts_of text = slice_split (λ b. b == 124) text

-- decimal digits, at least one, the first of them no `0`, which is 48
abbrev pub is_numeral : List ℕ → Bool
is_numeral digits = list_all is_ascii_digit digits && nat_le 1 (length digits) && not (slice_index digits 0 == 48)

-- a numeral below 2^63; the number is not 0, since the numeral has no leading zero
abbrev pub is_counter : List ℕ → Bool
is_counter digits = is_numeral digits && nat_le (digits_value 10 digits) GREATEST_COUNT

-- a uid before the first `:`, and a counter after it
abbrev pub is_entry_text : List ℕ → Bool
is_entry_text part =
    is_id Replica (before_first (λ b. b == 58) part) && is_counter (after_first (λ b. b == 58) part)

-- the entry that a part spells
abbrev pub entry_of : List ℕ → Uid × ℕ
entry_of part = (before_first (λ b. b == 58) part, digits_value 10 (after_first (λ b. b == 58) part))

-- the first entry whose uid is not above the one before it: the entries before it rise, and with it they do not
pub record IsFirstUnsorted (es : Entries) (place : ℕ) : Type 0 where
  pub there : place < length es
  pub before : IsTrue (is_sorted id_cmp (take place es))
  pub unsorted : is_sorted id_cmp (take (place + 1) es) ≡ false

-- why a text is no clock. The faults are tested in this order
abbrev pub IsTextFault : List ℕ → ClockFault → Type 0
IsTextFault text Empty = text ≡ []
IsTextFault text TooMany = MOST_CLOCK_ENTRIES < length (parts_of text)
IsTextFault text (BadEntry i) =
    (text ≢ []) × (length (parts_of text) ≤ MOST_CLOCK_ENTRIES)
    × (position (λ part. not (is_entry_text part)) (parts_of text) ≡ Some i)
IsTextFault text (NotSorted i) =
    (text ≢ []) × (length (parts_of text) ≤ MOST_CLOCK_ENTRIES) × IsTrue (list_all is_entry_text (parts_of text))
    × IsFirstUnsorted (map entry_of (parts_of text)) i
IsTextFault text Memory = Unit {0}

-- the clock that a text spells, if it spells one: each part is an entry, and together they are a clock's
abbrev pub clock_in : List ℕ → Option Clock
clock_in text = if list_all is_entry_text (parts_of text) then clock_of (map entry_of (parts_of text)) else None

-- a reader answers the clock that the text spells; at a fault there is none, unless memory ran out, and the fault says
-- why
abbrev pub ReadsClock : List ℕ → Result Clock ClockFault → Type 0
ReadsClock text (Ok x) = clock_in text ≡ Some x
ReadsClock text (Err fault) = IsTextFault text fault × (fault ≢ Memory → clock_in text ≡ None)

-- why a list of uids with counters is no clock, in the same order; no memory is taken
abbrev pub IsEntriesFault : Entries → ClockFault → Type 0
IsEntriesFault es Empty = es ≡ []
IsEntriesFault es TooMany = MOST_CLOCK_ENTRIES < length es
IsEntriesFault es (BadEntry i) =
    (es ≢ []) × (length es ≤ MOST_CLOCK_ENTRIES) × (position (λ e. not (is_entry e)) es ≡ Some i)
IsEntriesFault es (NotSorted i) =
    (es ≢ []) × (length es ≤ MOST_CLOCK_ENTRIES) × IsTrue (list_all is_entry es) × IsFirstUnsorted es i
IsEntriesFault es Memory = ⊥

-- a list of uids with counters is taken as a clock exactly where it is one
abbrev pub TakesEntries : Entries → Result Clock ClockFault → Type 0
TakesEntries es (Ok x) = x.entries ≡ es
TakesEntries es (Err fault) = IsEntriesFault es fault
