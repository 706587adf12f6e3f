-- Which texts are ids, which id a text is, and why another text is none.
use Rattle.std.specs.Prelude.{◌≡◌, ◌≢◌, ◌↔◌, ℕ, ◌<◌, ◌≤◌, ◌==◌, ◌||◌, ◌&&◌, nat_le, Bool, true, IsTrue, not, List, []}
use Rattle.std.specs.Prelude.{length, position, Option, Some, None, Result, Ok, Err, if◌then◌else◌}
use Rattle.std.specs.List.{list_all}
use Rattle.std.specs.Ordering.{nat_cmp, eq_by_cmp}
use Rattle.std.specs.declared.cmp.Ordering.{Ordering}
use Rattle.std.specs.Cmp.Lexicographic.{slice_cmp}
use Rattle.u1_base.specs.declared.limits.TheConstants.{MOST_DOCUMENT_ID_BYTES, MOST_NAME_BYTES}
use Rattle.u1_base.specs.declared.ids.Form.{Form}
use Rattle.u1_base.specs.declared.ids.Form.TheVariants.{Document, Replica, Transaction, Name}
use Rattle.u1_base.specs.declared.ids.IdFault.{IdFault}
use Rattle.u1_base.specs.declared.ids.IdFault.TheVariants.{Empty, TooLong, BadByte, Memory}

-- the greatest length of an id, in bytes
abbrev pub longest : Form → ℕ
longest Document = MOST_DOCUMENT_ID_BYTES
longest Replica = MOST_NAME_BYTES
longest Transaction = MOST_NAME_BYTES
longest Name = MOST_NAME_BYTES

-- an ASCII letter or digit
abbrev pub is_letter_or_digit : ℕ → Bool
is_letter_or_digit b =
    nat_le 48 b && nat_le b 57 || nat_le 65 b && nat_le b 90 || nat_le 97 b && nat_le b 122

-- the alphabets: letters, digits and `-` (45) in each; `.` is 46, `_` 95 and `%` 37
abbrev pub is_allowed : Form → ℕ → Bool
is_allowed Document b = is_letter_or_digit b || b == 45 || b == 46 || b == 95 || b == 37
is_allowed Replica b = is_letter_or_digit b || b == 45 || b == 95
is_allowed Transaction b = is_letter_or_digit b || b == 45
is_allowed Name b = is_letter_or_digit b || b == 45 || b == 46 || b == 95

-- a text is an id of the form: not empty, not too long, and all in the alphabet
abbrev pub is_id : Form → List ℕ → Bool
is_id form text =
    nat_le 1 (length text) && nat_le (length text) (longest form) && list_all (is_allowed form) text

abbrev pub IsId : Form → List ℕ → Type 0
IsId form text = IsTrue (is_id form text)

-- the id that a text is, if it is one: the text itself
abbrev pub id_in : Form → List ℕ → Option (List ℕ)
id_in form text = if is_id form text then Some text else None

-- why a text is no id: its length first, then its first byte outside the alphabet
abbrev pub IsFault : Form → List ℕ → IdFault → Type 0
IsFault form text Empty = text ≡ []
IsFault form text (TooLong n) = (n ≡ length text) × (longest form < n)
IsFault form text (BadByte at) =
    (1 ≤ length text) × (length text ≤ longest form)
    × (position (λ b. not (is_allowed form b)) text ≡ Some at)
IsFault form text Memory = Unit {0}

-- a reader answers the id that the text is; at a fault there is none, unless memory ran out, and the fault says why
abbrev pub ReadsId : Form → List ℕ → Result (List ℕ) IdFault → Type 0
ReadsId form text (Ok id) = id_in form text ≡ Some id
ReadsId form text (Err fault) = IsFault form text fault × (fault ≢ Memory → id_in form text ≡ None)

-- ids are ordered by their bytes
abbrev pub id_cmp : List ℕ → List ℕ → Ordering
id_cmp = slice_cmp nat_cmp

-- whether the second id is the one that is asked for, which stands first
abbrev pub same_id : List ℕ → List ℕ → Bool
same_id = eq_by_cmp id_cmp

-- ---- what holds of all ids

-- an id reads as itself, and what reads as an id is that id
pub record IdsReadBack : Type 0 where
  pub back : (form : Form) (id : List ℕ) → IsId form id → id_in form id ≡ Some id
  pub only : (form : Form) (text id : List ℕ) → id_in form text ≡ Some id → (text ≡ id) × IsId form id

-- ids are the same exactly where their bytes are
abbrev pub SameIdDecides : Type 0
SameIdDecides = (wanted id : List ℕ) → (same_id wanted id ≡ true) ↔ (wanted ≡ id)
