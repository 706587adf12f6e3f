-- A volume that was compacted, or not.
use Rattle.std.specs.Prelude.{IfOk, IsTrue, OnErr}
use Rattle.std.proofs.Common.{◌≡◌, ◌≢◌, ℕ, ◌≤◌, Bool, true, false, List, [], Option, Some, None, Result}
use Rattle.std.proofs.Common.{Ok, Err, refl, sym, ◌∙◌, ap, subst}
use Rattle.u1_base.specs.Causes.{HasCauseOf}
use Rattle.compaction.specs.Compaction.{compaction}
use Rattle.conflicts.specs.State.{History}
use Rattle.disk_model.specs.Device.{Device}
use Rattle.disks.specs.Joint.{Devices, seen_of}
use Rattle.disks.specs.declared.fault.CompactFault.{CompactFault}
use Rattle.disks.specs.declared.fault.CompactFault.TheVariants as fault
use Rattle.disks.specs.declared.fault.Sizes.{Sizes}
use Rattle.disks.specs.declared.name.DiskName.{DiskName}
use Rattle.disks.specs.declared.trio.Trio.{Trio}
use Rattle.journal.specs.Image.{Head}
use Rattle.replica_core.specs.Replica.{NeedsBehind, Stands as LeftStands, stored_in}
use Rattle.replica_volume.specs.Compacting.{Compacts, LeavesStored, StaysOpen, sizes_of}
use Rattle.replica_volume.specs.Steps.{Chronicle, steps_of}
use Rattle.replica_volume.specs.Store.{holds_steps, opens_as, store_of, with_steps}
use Rattle.replica_volume.specs.Store.StoreFound.{Holds}
use Rattle.replica_volume.specs.Volume.{IsOpenVolume, KeepsHistory, devices, volume_crash}
use Rattle.replica_volume.specs.Volume.{volume_known}
use Rattle.replica_volume.specs.declared.replica.Volume.{Volume}
use Rattle.store_commands.specs.Compacting.{AreCompacted, Compacts as CompactsStore, Ends, Image, IsCompacted}
use Rattle.volume.specs.Crashes.{OnlyLooks}
use Rattle.volume.specs.Store.{FoundImages, found_of}
use Rattle.volume.specs.Store.FoundImages.{Blank as NoImages, Damaged as BrokenImage, Stands as StandingImage}
use Rattle.volume.proofs.Standing.{store_stands}
use Rattle.replica_cli.specs.Store.{image_of, image_with, volume_image}
use Rattle.replica_cli.proofs.Looking.{crash_since, earlier_crash, grows, later_if}

-- ---- what an open volume holds

module _ {D : Type 0} (known : D → Device) (v : Volume D) (k : KeepsHistory v (devices known v).files) where
  read : found_of (seen_of (devices known v).files) ≡ StandingImage v.side 2 k.head k.bodies
  read = (store_stands v.journal v.side 2 k.head k.bodies (devices known v).files k.stands).read

  -- its image has the length that its journal counts, and says its history
  pub image_held : image_of (found_of (seen_of (devices known v).files))
      ≡ Some (record { length = v.journal.length; steps = k.history })
  image_held =
      ap image_of read
      ∙ ap (λ (r : Result Chronicle ℕ). image_with 2 k.head k.bodies r) k.says
      ∙ ap (λ (n : ℕ). Some (record { length = n; steps = k.history })) (sym k.stands.image.extent.all)

  pub holds : store_of (seen_of (devices known v).files) ≡ Holds v.side 2 k.head k.history
  holds = ap with_steps read ∙ ap (λ (r : Result Chronicle ℕ). holds_steps v.side 2 k.head r) k.says

same_steps : (side to : DiskName) (head h : Head) (s t : History) → Holds side 2 head s ≡ Holds to 2 h t → s ≡ t
same_steps side to head h s t e = cc

-- ---- where it was compacted

pub compacted : {D : Type 0} (tells : Bool) (known : D → Device) (old new : Volume D) (sizes : Sizes)
    → (IsTrue tells → KeepsHistory old (devices known old).files)
    → (IsTrue tells → KeepsHistory new (devices known new).files)
    → sizes ≡ sizes_of old new → (IsTrue tells → Compacts tells known old new sizes)
    → AreCompacted sizes (volume_image tells known old) (volume_image tells known new)
compacted true known old new sizes before after are compacts =
    let a = before refl in let b = after refl in
    let done = compacts refl old.side a.head a.history (holds known old a) in
    let is : IsCompacted sizes (record { length = old.journal.length; steps = a.history })
    (record { length = new.journal.length; steps = b.history }) = record {
      before_long = ap (λ (s : Sizes). s.before) are;
      after_long = ap (λ (s : Sizes). s.after) are;
      steps = same_steps new.side _ b.head a.head b.history (compaction a.history)
          (sym (holds known new b) ∙ done.holds);
    } in
    subst (λ (i : Option Image). AreCompacted sizes i (volume_image true known new))
    (sym (image_held known old a))
    (subst (λ (i : Option Image). AreCompacted sizes
    (Some (record { length = old.journal.length; steps = a.history })) i)
    (sym (image_held known new b)) is)
compacted false known old new sizes before after are compacts = tt

-- ---- where it was not

pub same_seen : {D : Type 0} (tells : Bool) (known : D → Device) (old new : Volume D)
    → (IsTrue tells → OnlyLooks (devices known old) (devices known new))
    → volume_image tells known new ≡ volume_image tells known old
same_seen true known old new looks = ap (λ files. image_of (found_of files)) (looks refl).seen
same_seen false known old new looks = refl

pub untold : {D : Type 0} (tells : Bool) (known : D → Device) (v : Volume D) → ¬ (IsTrue tells)
    → volume_image tells known v ≡ None
untold true known v never = absurd (never refl)
untold false known v never = refl

-- ---- the whole

module _ {D : Type 0} (tells : Bool) (known : D → Device) (old new : Volume D) where
  abbrev before : Devices
  before = devices known old

  abbrev after : Devices
  after = devices known new

  module _ (state : new.state ≡ old.state) (limit : new.journal.limit ≡ old.journal.limit)
      (later : before.faults ≤ after.faults)
      (any_moment : IsTrue tells → LeavesStored (stored_in (volume_known tells known old)) before after) where
    abbrev Leaves : Result Sizes CompactFault → Type 0
    Leaves result = CompactsStore (volume_known tells known) (IsOpenVolume tells known) (volume_crash tells known)
        (volume_image tells known) old new result

    abbrev EndsSo : Result Sizes CompactFault → Type 0
    EndsSo result = Ends (volume_known tells known) (IsOpenVolume tells known) (volume_crash tells known)
        (volume_image tells known) old new result

    abbrev Opens : Trio (List ℕ) → Type 0
    Opens files = opens_as files ≡ LeftStands (stored_in (volume_known tells known old))

    ended : (result : Result Sizes CompactFault) → EndsSo result → Leaves result
    ended result ends = record {
      stored = rw (state, limit) refl;
      later = later;
      any_moment = record {
        later = later_if tells before after (λ t. grows before after Opens (any_moment t));
        same = earlier_crash tells before after Opens any_moment;
        added = λ k o low high crash.
            let c = crash_since tells before after Opens any_moment k o low crash in c.1.2 ∙ c.1.1;
      };
      ends = ends;
    }

    pub not_compacted : (why : CompactFault) → StaysOpen tells known new (Err why)
        → NeedsBehind (volume_known tells known old) (volume_known tells known new) []
        → (IsTrue tells → (disk : DiskName) (place : ℕ)
        → ◌≢◌ {A = Result Sizes CompactFault} (Err why) (Err (fault.Damaged disk place)))
        → (IsTrue tells → ◌≢◌ {A = Result Sizes CompactFault} (Err why) (Err fault.Disk) → OnlyLooks before after)
        → HasCauseOf {T = Sizes} fault.Disk before.faults after.faults (Err why)
        → Leaves (Err why)
    not_compacted (fault.Damaged disk place) is need sound looks cause =
        ended (Err (fault.Damaged disk place)) (
          record { ready = is; same = same_seen tells known old new (λ t. looks t (λ e. cc)); need = need },
          untold tells known old (λ t. sound t disk place refl),
        )
    not_compacted fault.Disk is need sound looks cause = ended (Err fault.Disk) (cause.failed refl)
    not_compacted fault.Memory is need sound looks cause =
        ended (Err fault.Memory)
        (record { ready = is; same = same_seen tells known old new (λ t. looks t (λ e. cc)); need = need })

    pub was_compacted : (sizes : Sizes) → IsOpenVolume tells known old → IsOpenVolume tells known new
        → sizes ≡ sizes_of old new → (IsTrue tells → Compacts tells known old new sizes)
        → Leaves (Ok sizes)
    was_compacted sizes was is are compacts =
        ended (Ok sizes)
        (is, compacted tells known old new sizes (λ t. was.keeps t) (λ t. is.keeps t) are compacts)

    pub compacts_so : (was : IsOpenVolume tells known old) (result : Result Sizes CompactFault)
        → StaysOpen tells known new result → IfOk result (λ sizes. sizes ≡ sizes_of old new)
        → (IsTrue tells → IfOk result (Compacts tells known old new))
        → OnErr result (NeedsBehind (volume_known tells known old) (volume_known tells known new) [])
        → (IsTrue tells → (disk : DiskName) (place : ℕ) → result ≢ Err (fault.Damaged disk place))
        → (IsTrue tells → OnErr result (result ≢ Err fault.Disk → OnlyLooks before after))
        → HasCauseOf {T = Sizes} fault.Disk before.faults after.faults result
        → Leaves result
    compacts_so was (Ok sizes) is are compacts need sound looks cause = was_compacted sizes was is are compacts
    compacts_so was (Err why) is are compacts need sound looks cause = not_compacted why is need sound looks cause
