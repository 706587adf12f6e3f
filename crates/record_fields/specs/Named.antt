-- The fields that name uids: clocks and places of peers, in both formats.
use Rattle.std.specs.Prelude.{◌≤◌, ℕ, ◌==◌, List, [], ◌∷◌, ◌++◌, length, is_some, if◌then◌else◌, Option, Some, None, Ok}
use Rattle.std.specs.Prelude.{Err}
use Rattle.std.specs.List.{slice_get}
use Rattle.std.specs.Int.{w16, w32, w64, to_be_bytes}
use Rattle.u1_base.specs.Places.{Place}
use Rattle.u1_base.specs.declared.ids.Form.TheVariants.{Replica}
use Rattle.u1_base.specs.declared.limits.TheConstants.{GREATEST_COUNT}
use Rattle.vector_rev.specs.Counts.{Uid, Entries}
use Rattle.vector_rev.specs.Clock.{Clock, clock_of}
use Rattle.vector_rev.specs.ClockText.{clock_text, clock_in}
use Rattle.record_fields.specs.Table.{Table, uids, number_of, with_uid}
use Rattle.record_fields.specs.Fields.{Rest, Read, Field, ◌then◌, mapped, checked, counted}
use Rattle.record_fields.specs.Plain.{byte, number, text_of, id, generation, IsTransAt, trans_at}
use Rattle.record_fields.specs.declared.format.Format.{Format}
use Rattle.record_fields.specs.declared.format.Format.TheVariants.{First, Second}

-- ---- uids

abbrev pub reference_bytes : Table → Uid → Option ℕ → List ℕ
reference_bytes t u (Some n) = to_be_bytes w32 n
reference_bytes t u None = to_be_bytes w32 (length (uids t)) ++ (id Replica).spelled t u

-- a text after the next free number: a uid that has none. The whole reference began with so many bytes left
abbrev pub introduced : ℕ → Read Uid → Read Uid
introduced left (Err _) = Err left
introduced left (Ok u) =
    if is_some (number_of (uids u.1.table) u.0) then Err left
    else Ok (u.0, record { table = with_uid u.1.table u.0; bytes = u.1.bytes })

abbrev pub referred : ℕ → Option Uid → ℕ → Rest → Read Uid
referred left (Some u) n behind = Ok (u, behind)
referred left None n behind =
    if n == length (uids behind.table) then introduced left ((id Replica).read behind) else Err left

abbrev pub reference_at : ℕ → Read ℕ → Read Uid
reference_at left (Err _) = Err left
reference_at left (Ok n) = referred left (slice_get (uids n.1.table) n.0) n.0 n.1

-- the number of a uid in four bytes; after the next free number stands the text of the uid that gets it
abbrev pub reference : Field Uid
reference = record {
  named = λ u. u ∷ [];
  spelled = λ t u. reference_bytes t u (number_of (uids t) u);
  read = λ r. reference_at (length r.bytes) ((number w32).read r);
}

-- by its text in format 1, by its number in format 2
abbrev pub uid : Format → Field Uid
uid First = id Replica
uid Second = reference

-- ---- clocks

-- a uid and its counter
abbrev pub entry : Field (Uid × ℕ)
entry = reference then λ _. number w64

-- one to 64 entries in the order of their uids; their number stands in one byte
abbrev pub entries : Field Entries
entries = counted byte entry

-- the clock's text in format 1, its entries in format 2; one field
abbrev pub clock : Format → Field Clock
clock First = text_of w16 clock_in clock_text
clock Second = checked entries clock_of (λ c. c.entries)

-- so many clocks, each a field
abbrev pub clocks : Format → Field (List Clock)
clocks format = counted (number w32) (clock format)

-- ---- places of peers

abbrev pub place : Field Place
place = mapped (generation then trans_at) (λ p. record { generation = p.0; trans = p.1 }) (λ p. (p.generation, p.trans))

abbrev pub IsPlace : Place → Type 0
IsPlace p = (p.generation ≤ GREATEST_COUNT) × IsTransAt p.generation p.trans

-- whose place, and which
abbrev pub peer : Format → Field (Uid × Place)
peer format = uid format then λ _. place
