use Rattle.std.specs.Prelude.{ℕ, List, [], ◌∷◌, ◌++◌, take}
use Rattle.disk_model.specs.Disk.{Unsynced, settled, wrote, was_cut, overwritten}
use Rattle.disk_model.specs.Device.{Moment, moment, alone}
use Rattle.disk_model.specs.declared.calls.Call.{Call}
use Rattle.disk_model.specs.declared.calls.Call.TheVariants.{Look, Write, Cut, Sync}

-- what a read gave before the call, from what one gave after it
abbrev pub undone : Call → List ℕ → List ℕ
undone Look file = file
undone (Write at size replaced former) file = take former (overwritten file at replaced)
undone (Cut to removed) file = file ++ removed
undone Sync file = file

-- what a read gave before all of these calls
abbrev pub before : List Call → List ℕ → List ℕ
before [] file = file
before (c ∷ cs) file = undone c (before cs file)

-- what a crash may leave after the call, where a read then gives this file
abbrev pub step : Call → List ℕ → Unsynced → Unsynced
step Look file u = u
step (Write at size replaced former) file u = wrote at size u
step (Cut to removed) file u = was_cut to u
step Sync file u = settled file

-- what becomes of a state through the calls, where each call changes it and a read gave `file` after them all
abbrev pub through : {S : Type 0} → (Call → List ℕ → S → S) → S → List Call → List ℕ → S
through f s [] file = s
through f s (c ∷ cs) file = through f (f c (before cs file) s) cs file

-- what a crash may leave after the calls
abbrev pub reached : Unsynced → List Call → List ℕ → Unsynced
reached u cs file = through step u cs file

-- the moment before each of the calls
abbrev pub moments : Unsynced → List Call → List ℕ → List Moment
moments u [] file = []
moments u (c ∷ cs) file = moment u alone ∷ moments (step c (before cs file) u) cs file

-- a disk in memory begins with a file that lies there
abbrev pub now_of : List Call → List ℕ → Unsynced
now_of log file = reached (settled (before log file)) log file

abbrev pub past_of : List Call → List ℕ → List Moment
past_of log file = moments (settled (before log file)) log file
