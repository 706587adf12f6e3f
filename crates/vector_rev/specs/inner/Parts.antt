-- What is read of one part of a text and of all parts, which entries are in
-- order, and how one more entry is written.
use Rattle.std.specs.Prelude.{◌≡◌, ℕ, ◌==◌, false, not, IsTrue, List, ◌∷◌, map, position, Option, Some, None, Result}
use Rattle.std.specs.Prelude.{Ok, Err, if◌then◌else◌}
use Rattle.std.specs.List.{list_all}
use Rattle.vector_rev.specs.Counts.{Uid, Entries}
use Rattle.u1_base.specs.Ids.{is_id}
use Rattle.u1_base.specs.declared.ids.Form.TheVariants.{Replica}
use Rattle.vector_rev.specs.Clock.{Clock}
use Rattle.vector_rev.specs.ClockText.{entry_text, entry_of, is_entry_text, IsFirstUnsorted}
use Rattle.vector_rev.specs.declared.read.ClockFault.{ClockFault}
use Rattle.vector_rev.specs.declared.read.ClockFault.TheVariants.{Empty, TooMany, BadEntry, NotSorted, Memory}

-- a uid is read exactly where it is one
abbrev pub UidIs : List ℕ → Option Uid → Type 0
UidIs text (Some uid) = IsTrue (is_id Replica text) × (uid ≡ text)
UidIs text None = is_id Replica text ≡ false

-- a part is read exactly where it is an entry
abbrev pub EntryIs : List ℕ → Option (Uid × ℕ) → Type 0
EntryIs part (Some e) = IsTrue (is_entry_text part) × (e ≡ entry_of part)
EntryIs part None = is_entry_text part ≡ false

-- parts are read where each is an entry, and else the first that is none is named
abbrev pub ReadsEntries : List (List ℕ) → Result Entries ClockFault → Type 0
ReadsEntries parts (Ok es) = IsTrue (list_all is_entry_text parts) × (es ≡ map entry_of parts)
ReadsEntries parts (Err (BadEntry i)) = position (λ part. not (is_entry_text part)) parts ≡ Some i
ReadsEntries parts (Err Memory) = Unit {0}
ReadsEntries parts (Err Empty) = ⊥
ReadsEntries parts (Err TooMany) = ⊥
ReadsEntries parts (Err (NotSorted i)) = ⊥

-- entries that keep the limits, as far as their order goes
abbrev pub OrdersEntries : Entries → Result Clock ClockFault → Type 0
OrdersEntries es (Ok x) = x.entries ≡ es
OrdersEntries es (Err (NotSorted i)) = IsFirstUnsorted es i
OrdersEntries es (Err Empty) = ⊥
OrdersEntries es (Err TooMany) = ⊥
OrdersEntries es (Err (BadEntry i)) = ⊥
OrdersEntries es (Err Memory) = ⊥

-- the entry at place i of a text, after its bar where it is not the first
abbrev pub separated : ℕ → Uid × ℕ → List ℕ
separated i e = if i == 0 then entry_text e else 124 ∷ entry_text e
