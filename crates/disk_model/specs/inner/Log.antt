-- Beside specs/Log: words of private contracts and of proofs.
use Rattle.std.specs.Prelude.{Bool, true, false}
use Rattle.disk_model.specs.declared.calls.Call.{Call}
use Rattle.disk_model.specs.declared.calls.Call.TheVariants.{Look, Write, Cut, Sync}

-- no sync
abbrev pub is_open : Call → Bool
is_open Look = true
is_open (Write at size replaced former) = true
is_open (Cut to removed) = true
is_open Sync = false
