-- A new image is written on the other side, and then named.
use Rattle.std.proofs.Common.{◌≡◌, ◌≢◌, ◌⊎◌, inl, ℕ, ◌≤◌, List, [], ◌∷◌, length, get_or, ap, subst, arith}
use Rattle.disk_model.specs.Disk.{IsAny, Torn}
use Rattle.disks.specs.declared.name.DiskName.{DiskName}
use Rattle.disks.specs.declared.name.DiskName.TheVariants.{Root}
use Rattle.disks.specs.declared.trio.Trio.{Trio}
use Rattle.disks.specs.Trio.{pick}
use Rattle.disks.specs.Joint.{Devices, now_of}
use Rattle.disks.specs.Moments.{LeavesTogether, ChangedOnly, SameElsewhere}
use Rattle.disks.proofs.Runs.{goes_on, weaker}
use Rattle.disk_model.specs.Device.{File, IsSettled}
use Rattle.journal.specs.Image.{Head}
use Rattle.journal.specs.Journal.{Extent, Holds}
use Rattle.volume.specs.Store.{Names, IsStore, StandsOnOther, found_of}
use Rattle.volume.specs.Store.FoundImages.{Stands}
use Rattle.volume.proofs.Finding.{found_standing}
use Rattle.volume.proofs.Standing.{root_left, side_left, still_holds, still_names, not_root}
use Rattle.volume.proofs.Roots.{torn_byte, either_found, never_root}

module _ (journal : Extent) (from to : DiskName) (format : ℕ) (former head : Head) (rows bodies : List (List ℕ))
    (ne : from ≢ to) (side : to ≢ Root) where
  abbrev pub OldOrNew : Trio (List ℕ) → Type 0
  OldOrNew files = (found_of files ≡ Stands from format former rows) ⊎ (found_of files ≡ Stands to 2 head bodies)

  -- the root names the old side, so that is not the root
  from_side : (files : Trio File) → IsStore journal from format former rows files → from ≢ Root
  from_side files s = never_root s.names.byte from s.names.lowest

  -- while the new image is written
  pub image_run : (old new : Devices) → IsStore journal from format former rows old.files
      → LeavesTogether old new (ChangedOnly to IsAny (now_of old.files)) → LeavesTogether old new OldOrNew
  image_run old new s run =
      weaker old new (ChangedOnly to IsAny (now_of old.files)) OldOrNew run (λ images c.
      inl (found_standing images from s.names.byte format former rows
      (root_left from old.files.root images.root s.names (c.elsewhere Root (not_root to side))) s.names.lowest
      (side_left journal from format former rows old.files images s.image (c.elsewhere from ne))))

  -- the old store stands beside the new image
  pub still_stands : (old new : Trio File) → SameElsewhere to old new → IsStore journal from format former rows old
      → IsStore journal from format former rows new
  still_stands old new same s = record {
    names = still_names from to old new same (not_root to side) s.names;
    image = still_holds journal format former rows to from old new same ne s.image;
  }

  -- while the root is written
  pub root_run : (next : Extent) (old new : Devices) → IsStore journal from format former rows old.files
      → Holds next 2 head bodies (pick to old.files)
      → LeavesTogether old new (ChangedOnly Root (Torn 0 1 old.files.root.seen) (now_of old.files))
      → LeavesTogether old new OldOrNew
  root_run next old new s h run =
      weaker old new (ChangedOnly Root (Torn 0 1 old.files.root.seen) (now_of old.files)) OldOrNew run (λ images c.
      let torn : Torn 0 1 (s.names.byte ∷ []) images.root =
      subst (λ (bytes : List ℕ). Torn 0 1 bytes images.root) s.names.seen c.there in
      either_found images (get_or images.root 0 0) from to format 2 former head rows bodies
      (torn_byte s.names.byte images.root torn)
      (from_side old.files s) side ne
      (side_left journal from format former rows old.files images s.image (c.elsewhere from (from_side old.files s)))
      (side_left next to 2 head bodies old.files images h (c.elsewhere to side)))

  -- one after the other
  pub both_runs : (next : Extent) (old mid new : Devices) → IsStore journal from format former rows old.files
      → SameElsewhere to old.files mid.files → Holds next 2 head bodies (pick to mid.files)
      → LeavesTogether old mid (ChangedOnly to IsAny (now_of old.files))
      → (IsSettled mid.files.root
      → LeavesTogether mid new (ChangedOnly Root (Torn 0 1 mid.files.root.seen) (now_of mid.files)))
      → LeavesTogether old new OldOrNew
  both_runs next old mid new s same h first then =
      let stands = still_stands old.files mid.files same s in
      goes_on old mid new OldOrNew (image_run old mid s first)
      (root_run next mid new stands h (then stands.names.durable))

-- the root was written too
pub moved : (to : DiskName) (head : Head) (bodies : List (List ℕ)) (journal : Extent) (mid last : Trio File)
    → to ≢ Root → SameElsewhere Root mid last
    → Holds journal 2 head bodies (pick to mid) → Names to last.root → IsStore journal to 2 head bodies last
moved to head bodies journal mid last side same h n = record {
  names = n;
  image = still_holds journal 2 head bodies Root to mid last same side h;
}

-- a named root has one byte
pub named_short : (side : DiskName) (root : File) → Names side root → length root.seen ≤ 1
named_short side root n = omega (arith, ap length n.seen)

-- so it has one where a store stands, and after another disk was written
pub other_short : (to : DiskName) (old new : Trio File) → to ≢ Root → SameElsewhere to old new → StandsOnOther to old
    → length new.root.seen ≤ 1
other_short to old new side same stands =
    named_short stands.1 new.root (still_names stands.1 to old new same (not_root to side) stands.3.3.names)
