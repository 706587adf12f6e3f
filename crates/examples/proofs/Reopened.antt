-- What a store opens as that was closed.
use Rattle.std.specs.Prelude.{◌≡◌, ◌⊎◌, ℕ, List, Result, Ok, Err, IfOk, IfErr, refl}
use Rattle.std.proofs.Common.{sym, ◌∙◌, ap, inl, inr}
use Rattle.disk_model.specs.Device.{Device}
use Rattle.disks.specs.declared.three.Disks.{Disks}
use Rattle.disks.specs.declared.trio.Trio.{Trio}
use Rattle.disks.specs.Joint.{seen_of}
use Rattle.replica_core.specs.Replica.{Found, Stored}
use Rattle.replica_core.specs.Replica.Found.{Stands}
use Rattle.replica_state.specs.Held.{meaning}
use Rattle.volume.proofs.Standing.{store_stands}
use Rattle.replica_volume.specs.Opening.{IsOpenedFrom, OpensVolume}
use Rattle.replica_volume.specs.Steps.{Chronicle}
use Rattle.replica_volume.specs.Store.{StoreFound, holds_steps, opened_as, store_of, stored_at, with_steps}
use Rattle.replica_volume.specs.Store.StoreFound.{Blank, Damaged, Holds}
use Rattle.replica_volume.specs.Volume.{KeepsHistory, devices}
use Rattle.disks.specs.declared.fault.OpenFault.{OpenFault}
use Rattle.disks.specs.declared.fault.OpenFault.TheVariants as fault
use Rattle.replica_volume.specs.declared.replica.Volume.{Volume}

module _ {D : Type 0} (known : D → Device) (v : Volume D) (k : KeepsHistory v (devices known v).files)
    (files : Trio (List ℕ)) (are : files ≡ seen_of (devices known v).files) where
  stands : store_of files ≡ Holds v.side 2 k.head k.history
  stands =
      ap store_of are
      ∙ ap with_steps (store_stands v.journal v.side 2 k.head k.bodies (devices known v).files k.stands).read
      ∙ ap (λ (r : Result Chronicle ℕ). holds_steps v.side 2 k.head r) k.says

  same_state : (again : Volume D) → IsOpenedFrom files again → meaning again.state ≡ meaning v.state
  same_state again from =
      from.leaves ∙ same (stored_at from.head from.history) (stored_at k.head k.history)
      (sym (ap opened_as from.found) ∙ ap opened_as stands) ∙ sym k.leaves
    where
      same : (s t : Stored) → ◌≡◌ {A = Found Stored} (Stands s) (Stands t) → s.state ≡ t.state
      same s t e = let is : s ≡ t = cc (e) in ap (λ (x : Stored). x.state) is

  pub reopens : (r : Result (Volume D) (Disks D × OpenFault)) → OpensVolume files r
      → IfOk r (λ again. meaning again.state ≡ meaning v.state)
  reopens (Ok again) from = same_state again from
  reopens (Err why) from = tt

  pub fails_only : (r : Result (Volume D) (Disks D × OpenFault)) → OpensVolume files r
      → IfErr r (λ why. (why.1 ≡ fault.Disk) ⊎ (why.1 ≡ fault.Memory))
  fails_only (Ok again) from = tt
  fails_only (Err (disks, fault.Blank)) found =
      let other : ◌≡◌ {A = StoreFound} Blank (Holds v.side 2 k.head k.history) = sym found ∙ stands
      in absurd (cc (other))
  fails_only (Err (disks, fault.Damaged disk place)) found =
      let other : ◌≡◌ {A = StoreFound} (Damaged disk place) (Holds v.side 2 k.head k.history) = sym found ∙ stands
      in absurd (cc (other))
  fails_only (Err (disks, fault.Disk)) found = inl refl
  fails_only (Err (disks, fault.Memory)) found = inr refl
