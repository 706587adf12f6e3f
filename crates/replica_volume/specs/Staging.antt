-- What a volume keeps while steps are staged.
use Rattle.std.specs.Prelude.{◌≡◌, ◌≢◌, ◌⊎◌, ℕ, ◌+◌, ◌≤◌, List, [], ◌++◌, Bool, true, IsTrue, length, Ok}
use Rattle.conflicts.specs.State.{History, State, Text}
use Rattle.disk_model.specs.Device.{Device, File}
use Rattle.disks.specs.declared.name.DiskName.TheVariants.{Root}
use Rattle.disks.specs.declared.trio.Trio.{Trio}
use Rattle.journal.specs.Image.{Head}
use Rattle.journal.specs.Entries.{AreSpelled}
use Rattle.journal.specs.declared.layout.TheConstants.{SECOND_FORMAT}
use Rattle.replica_state.specs.Held.{meaning}
use Rattle.volume.specs.Store.{IsStore}
use Rattle.replica_volume.specs.Steps.{state_at, steps_of}
use Rattle.replica_volume.specs.Volume.{devices}
use Rattle.replica_volume.specs.declared.replica.Volume.{Volume}

-- These steps are staged: a store of format 2 stands on the disks, whose bodies say a history, and behind them the
-- entries that are spelled say these steps. With them, the uids have their numbers.
pub record StagesSteps {D : Type 0} (v : Volume D) (files : Trio File) (later : History) : Type 0 where
  pub head : Head
  pub bodies : List (List ℕ)
  pub more : List (List ℕ)
  pub history : History
  pub uids : List Text
  pub stands : IsStore v.journal v.side SECOND_FORMAT head bodies files
  pub spelled : AreSpelled more v.staged
  pub said : steps_of SECOND_FORMAT head bodies ≡ Ok (record { steps = history; uids = uids })
  pub says : steps_of SECOND_FORMAT head (bodies ++ more)
      ≡ Ok (record { steps = history ++ later; uids = v.uids.uids })

-- some steps are; the state is the one behind them, and the kept one that of the history on the disks
pub record KeepsStaged {D : Type 0} (v : Volume D) (files : Trio File) (kept : State) : Type 0 where
  pub later : History
  pub steps : StagesSteps v files later
  pub was : kept ≡ state_at steps.head steps.history
  pub leaves : meaning v.state ≡ state_at steps.head (steps.history ++ later)

-- the volume is open, what is staged fits its image, and this state is kept
pub record IsStagedVolume {D : Type 0} (tells : Bool) (known : D → Device) (v : Volume D) (kept : State) : Type 0 where
  pub ready : v.open ≡ true
  pub image : v.side ≢ Root
  pub within : (v.staged ≡ []) ⊎ (v.journal.length + length v.staged ≤ v.journal.limit)
  pub keeps : IsTrue tells → KeepsStaged v (devices known v).files kept
