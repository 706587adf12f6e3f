-- A store that was opened or not.
use Rattle.std.specs.Prelude.{IsTrue}
use Rattle.std.specs.Result.{IsErrOf}
use Rattle.std.proofs.Common.{◌≡◌, ℕ, ◌≤◌, Bool, true, false, List, Some, None, Err, refl, sym, ◌∙◌}
use Rattle.std.proofs.Common.{subst}
use Rattle.disk_model.specs.Device.{Device}
use Rattle.disks.specs.declared.fault.OpenFault.{OpenFault}
use Rattle.disks.specs.declared.fault.OpenFault.TheVariants as fault
use Rattle.disks.specs.Disks.{disks_known}
use Rattle.disks.specs.declared.three.Disks.{Disks}
use Rattle.disks.specs.declared.trio.Trio.{Trio}
use Rattle.disks.specs.Joint.{Devices, seen_of}
use Rattle.replica_volume.specs.Opening.{IsFormer, IsLeft, LeavesAsBefore, OpensVolume}
use Rattle.replica_volume.specs.Store.{store_of}
use Rattle.replica_volume.specs.Store.StoreFound.{Blank as NoStore, Damaged as BrokenStore}
use Rattle.replica_volume.specs.Volume.{IsOpenVolume, devices, volume_crash, volume_known}
use Rattle.replica_volume.specs.declared.replica.Volume.{Volume}
use Rattle.store_commands.specs.Found.{Blank, Damaged, Stands, standing_in}
use Rattle.store_commands.specs.Store.{FailsToOpen, Finds, Opens}
use Rattle.u1_base.specs.Causes.{HasCauseOf}
use Rattle.volume.specs.Crashes.{OnlyLooks}
use Rattle.volume.specs.Store.{found_of}
use Rattle.disks.specs.declared.name.DiskName.{DiskName}
use Rattle.replica_cli.specs.Store.{found_in, image_seen, store_seen}
use Rattle.replica_cli.proofs.Files.{blank_as, damaged_as, same_or_moved, stands_as, told_if}
use Rattle.replica_cli.proofs.Looking.{Stays, finds, finds_some, looked, untouched}

-- what an opening leaves: what stood, or the same, moved to format 2
pub stays : (old new : Devices) → IsLeft old new → LeavesAsBefore old new → Stays old new
stays old new left run = record {
  found = (same_or_moved (found_of (seen_of old.files)) (found_of (seen_of new.files)) left).0;
  run = run;
}

pub same_image : (tells : Bool) (old new : Devices) → (IsTrue tells → IsLeft old new)
    → image_seen tells new ≡ image_seen tells old
same_image true old new left =
    (same_or_moved (found_of (seen_of old.files)) (found_of (seen_of new.files)) (left refl)).1
same_image false old new left = refl

-- it has no store of format 1
blank_no_former : (files : Trio (List ℕ)) → store_of files ≡ NoStore → IsFormer files → ⊥
blank_no_former files e former = absurd (cc (sym e ∙ former.found))

damaged_no_former : (files : Trio (List ℕ)) (disk : DiskName) (place : ℕ) → store_of files ≡ BrokenStore disk place
    → IsFormer files → ⊥
damaged_no_former files disk place e former = absurd (cc (sym e ∙ former.found))

-- the files are those that are told, where any are
module _ (tells : Bool) (old new : Devices) (files : Trio (List ℕ)) (told : IsTrue tells → files ≡ seen_of old.files)
    (looks : IsTrue tells → (IsFormer (seen_of old.files) → ⊥) → OnlyLooks old new)
    (later : old.faults ≤ new.faults) where
  pub finds_blank : store_of files ≡ NoStore → Finds Blank (store_seen tells old) (store_seen tells new)
  finds_blank e = finds tells old new Blank
      (λ t. subst (λ (f : Trio (List ℕ)). found_in f ≡ Blank) (told t) (blank_as (found_of files) e))
      (λ t. looks t (blank_no_former (seen_of old.files)
      (subst (λ (f : Trio (List ℕ)). store_of f ≡ NoStore) (told t) e))) later

  pub finds_damaged : (disk : DiskName) (place : ℕ) → store_of files ≡ BrokenStore disk place
      → Finds (Damaged disk place) (store_seen tells old) (store_seen tells new)
  finds_damaged disk place e =
      finds tells old new (Damaged disk place)
      (λ t. subst (λ (f : Trio (List ℕ)). found_in f ≡ Damaged disk place) (told t)
      (damaged_as (found_of files) disk place e))
      (λ t. looks t (damaged_no_former (seen_of old.files) disk place
      (subst (λ (f : Trio (List ℕ)). store_of f ≡ BrokenStore disk place) (told t) e))) later

-- a store that was not opened, by its fault
pub fails_to_open : {D : Type 0} (tells : Bool)
    (known : D → Device) (old : Devices) (files : Trio (List ℕ)) (disks : Disks D) (why : OpenFault)
    → (IsTrue tells → files ≡ seen_of old.files) → OpensVolume {D = D} files (Err (disks, why))
    → (IsTrue tells → IsLeft old (disks_known known disks))
    → (IsTrue tells → LeavesAsBefore old (disks_known known disks))
    → (IsTrue tells → (IsFormer (seen_of old.files) → ⊥) → OnlyLooks old (disks_known known disks))
    → (IsTrue tells → IsErrOf {T = Unit {0}} (Err why) fault.Memory → OnlyLooks old (disks_known known disks))
    → HasCauseOf {T = Unit {0}} fault.Disk old.faults (disks_known known disks).faults (Err why)
    → FailsToOpen (store_seen tells old) (store_seen tells (disks_known known disks)) why
fails_to_open tells known old files disks fault.Blank told e left run looks starved cause =
    finds_blank tells old (disks_known known disks) files told looks cause.later e
fails_to_open tells known old files disks (fault.Damaged disk place) told e left run looks starved cause =
    finds_damaged tells old (disks_known known disks) files told looks cause.later disk place e
fails_to_open tells known old files disks fault.Disk told e left run looks starved cause = (
  finds_some tells old (disks_known known disks) (λ t. stays old (disks_known known disks) (left t) (run t))
      cause.later,
  cause.failed refl,
)
fails_to_open tells known old files disks fault.Memory told e left run looks starved cause = (
  finds_some tells old (disks_known known disks) (λ t. stays old (disks_known known disks) (left t) (run t))
      cause.later,
  untouched tells old (disks_known known disks) (λ t. starved t refl),
)

-- it is open
pub opens : {D : Type 0} (tells : Bool) (known : D → Device) (old : Devices) (v : Volume D) → IsOpenVolume tells known v
    → (IsTrue tells → IsLeft old (devices known v)) → (IsTrue tells → LeavesAsBefore old (devices known v))
    → old.faults ≤ (devices known v).faults
    → Opens (store_seen tells old) (volume_known tells known v) (volume_crash tells known v)
    (IsOpenVolume tells known v)
opens tells known old v is left run later =
    let found = Stands (standing_in (volume_known tells known v)) in
    let as_was : IsTrue tells → Stays old (devices known v) = λ t. stays old (devices known v) (left t) (run t) in
    record {
      told = told_if tells (found_in (seen_of old.files)) found
          (λ t. sym (as_was t).found ∙ stands_as tells known v is.nothing (is.keeps t));
      keeps = record {
        passes = looked tells old (devices known v) found (Some found) None refl as_was later;
        need = λ xs y. refl;
      };
      opened = is;
    }
