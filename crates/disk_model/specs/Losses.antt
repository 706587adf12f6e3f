-- What each choice leaves of the calls of a disk in memory.
use Rattle.std.specs.Prelude.{ℕ, ◌-◌, ◌/◌, List, [], length, take, drop, replicate}
use Rattle.disk_model.specs.Disk.{overwritten}
use Rattle.disk_model.specs.Log.{before, through}
use Rattle.disk_model.specs.declared.calls.Call.{Call}
use Rattle.disk_model.specs.declared.calls.Call.TheVariants.{Look, Write, Cut, Sync}
use Rattle.disk_model.specs.declared.losses.Choice.{Choice}
use Rattle.disk_model.specs.declared.losses.Choice.TheVariants.{Nothing, Whole, FirstHalf, Fill}

-- what arrives of the bytes that were written into a range of this size
abbrev pub arrived : Choice → ℕ → List ℕ → List ℕ
arrived Nothing size written = []
arrived Whole size written = written
arrived FirstHalf size written = take (length written / 2) written
arrived (Fill byte) size written = replicate size byte

-- what a cut to `to` leaves of so many bytes
abbrev pub remaining : Choice → ℕ → ℕ → ℕ
remaining Nothing to size = size
remaining Whole to size = to
remaining FirstHalf to size = size - (size - to) / 2
remaining (Fill byte) to size = to

-- what is left after one call more: `file` is what a read gives when the crash comes, `after` what it gave after the
-- call
abbrev pub lost : Choice → List ℕ → Call → List ℕ → List ℕ → List ℕ
lost choice file Look after image = image
lost choice file (Write at size replaced former) after image =
    overwritten image at (arrived choice size (take size (drop at file)))
lost choice file (Cut to removed) after image = take (remaining choice to (length image)) image
lost choice file Sync after image = after

-- what a crash after the calls leaves, where a read gives this file
abbrev pub left_of : Choice → List Call → List ℕ → List ℕ
left_of choice log file = through (lost choice file) (before log file) log file

-- whether a stop during the call may leave a trace of it: of a write and of a cut, and of nothing else
abbrev pub begun : Call → ℕ
begun Look = 0
begun (Write at size replaced former) = 1
begun (Cut to removed) = 1
begun Sync = 0
