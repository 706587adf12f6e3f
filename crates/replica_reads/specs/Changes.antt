-- What a log tells of its changes.
use Rattle.std.specs.Prelude.{ℕ, List}
use Rattle.translog.specs.declared.entry.Entry.{Entry}
use Rattle.translog.specs.Entries.{changes_since}
use Rattle.translog.specs.Log.{end_of}
use Rattle.replica_reads.specs.declared.changes.Changed.{Changed}

-- the place after all entries, and the changes since a generation
abbrev pub changed_since : List Entry → ℕ → Changed
changed_since log generation = record { at = end_of log; changes = changes_since log generation }
