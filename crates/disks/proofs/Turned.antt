-- A call of a layer above, made on three disks that were turned to one of them before: what it says of the three.
--
-- `old` is before they were turned, `mid` before the call, `new` after it.
use Rattle.std.proofs.Common.{◌≡◌, ℕ, List, refl, sym, ◌∙◌, ap, subst}
use Rattle.disk_model.specs.Disk.{IsCrashImage}
use Rattle.disk_model.specs.Device.{File, Device, IsSettled, StaysSettled, file_of}
use Rattle.disk_model.specs.Moments.{LeavesOnly}
use Rattle.disks.specs.declared.name.DiskName.{DiskName}
use Rattle.disks.specs.declared.trio.Trio.{Trio}
use Rattle.disks.specs.declared.three.Disks.{Disks}
use Rattle.disks.specs.Trio.{pick}
use Rattle.disks.specs.Joint.{AreCrashImages, now_of, facing}
use Rattle.disks.specs.Moments.{LeavesTogether, ChangedOnly, SameElsewhere}
use Rattle.disks.specs.Disks.{disks_known, turned_to, turned}
use Rattle.disks.proofs.Bridge.{joint, keeps_name, keeps_others}
use Rattle.disks.proofs.Runs.{unchanged, weaker}

module _ {D : Type 0} (known : D → Device) where
  -- the three as one disk
  abbrev pub as_one : Disks D → Device
  as_one disks = facing (turned_to disks) (disks_known known disks)

  -- the file of this disk, before the call
  pub file_before : (old mid : Disks D) (name : DiskName) → mid ≡ turned name old
      → file_of (as_one mid) ≡ pick name (disks_known known old).files
  file_before old mid name e = ap (λ (d : Disks D). file_of (as_one d)) e

  module _ (old mid new : Disks D) (name : DiskName) (e : mid ≡ turned name old) where
    -- what lies beside, before the call
    beside_before : (as_one new).beside ≡ (as_one mid).beside → (as_one new).beside ≡ (as_one (turned name old)).beside
    beside_before kept = kept ∙ ap (λ (d : Disks D). (as_one d).beside) e

    pub still_turned : (as_one new).beside ≡ (as_one mid).beside → turned_to new ≡ name
    still_turned kept = keeps_name name (turned_to new) (disks_known known old) (disks_known known new)
        (beside_before kept)

    pub same_elsewhere : (as_one new).beside ≡ (as_one mid).beside
        → SameElsewhere name (disks_known known old).files (disks_known known new).files
    same_elsewhere kept = keeps_others name (turned_to new) (disks_known known old) (disks_known known new)
        (beside_before kept)

    -- the file of this disk, after the call
    pub file_after : (as_one new).beside ≡ (as_one mid).beside
        → file_of (as_one new) ≡ pick name (disks_known known new).files
    file_after kept = ap (λ (n : DiskName). pick n (disks_known known new).files) (still_turned kept)

    -- a file that stays settled in the call does so on its disk
    pub stays_settled : (as_one new).beside ≡ (as_one mid).beside
        → StaysSettled (file_of (as_one mid)) (file_of (as_one new))
        → StaysSettled (pick name (disks_known known old).files) (pick name (disks_known known new).files)
    stays_settled kept stays before =
        subst IsSettled (file_after kept) (stays (subst IsSettled (sym (file_before old mid name e)) before))

    pub leaves_joint : (P : List ℕ → Type 0) → LeavesOnly (as_one mid) (as_one new) P
        → LeavesTogether (disks_known known old) (disks_known known new)
        (ChangedOnly name P (now_of (disks_known known old).files))
    leaves_joint P run =
        joint name (turned_to new) (disks_known known old) (disks_known known new) P
        (subst (λ (d : Disks D). LeavesOnly (as_one d) (as_one new) P) e run)

    -- a call that only looks and syncs
    pub leaves_joint_images : LeavesOnly (as_one mid) (as_one new) (IsCrashImage (as_one mid).now)
        → LeavesTogether (disks_known known old) (disks_known known new)
        (AreCrashImages (now_of (disks_known known old).files))
    leaves_joint_images run =
        let before = (disks_known known old).files in let P : List ℕ → Type 0 = IsCrashImage (pick name before).now in
        weaker (disks_known known old) (disks_known known new) (ChangedOnly name P (now_of before))
        (AreCrashImages (now_of before))
        (joint name (turned_to new) (disks_known known old) (disks_known known new) P
        (subst (λ (d : Disks D). LeavesOnly (as_one d) (as_one new) (IsCrashImage (as_one d).now)) e run))
        (unchanged name before)
