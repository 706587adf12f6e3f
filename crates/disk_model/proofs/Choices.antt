-- The choices in plain words.
use Rattle.std.proofs.Common.{◌≡◌, ℕ, List, [], ◌∷◌, refl, ◌∙◌, ap, append-nil, add-zero}
use Rattle.std.proofs.lemmas.List.{take-append-drop}
use Rattle.std.proofs.Math.Seq.{take-length}
use Rattle.disk_model.specs.Disk.{Unsynced, settled, overwritten}
use Rattle.disk_model.specs.Log.{before, step, through, now_of}
use Rattle.disk_model.specs.Losses.{lost, left_of}
use Rattle.disk_model.specs.declared.calls.Call.{Call}
use Rattle.disk_model.specs.declared.calls.Call.TheVariants.{Look, Write, Cut, Sync}
use Rattle.disk_model.specs.declared.losses.Choice.TheVariants.{Nothing}

nothing_written : (image : List ℕ) (at : ℕ) → overwritten image at [] ≡ image
nothing_written image at = rw (append-nil, add-zero) (take-append-drop at image)

nothing_done : (c : Call) (file after : List ℕ) (u : Unsynced)
    → lost Nothing file c after u.synced ≡ (step c after u).synced
nothing_done Look file after u = refl
nothing_done (Write at size replaced former) file after u = nothing_written u.synced at
nothing_done (Cut to removed) file after u = take-length u.synced
nothing_done Sync file after u = refl

nothing_through : (file : List ℕ) (u : Unsynced) (cs : List Call) (after : List ℕ)
    → through (lost Nothing file) u.synced cs after ≡ (through step u cs after).synced
nothing_through file u [] after = refl
nothing_through file u (c ∷ cs) after =
    ap (λ (image : List ℕ). through (lost Nothing file) image cs after) (nothing_done c file (before cs after) u)
    ∙ nothing_through file (step c (before cs after) u) cs after

-- where nothing arrived the bytes of the last sync are left
pub nothing_left : (log : List Call) (file : List ℕ) → left_of Nothing log file ≡ (now_of log file).synced
nothing_left log file = nothing_through file (settled (before log file)) log file
