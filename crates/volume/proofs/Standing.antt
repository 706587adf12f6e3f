-- A store that stands is found: by the reads, and after a crash.
use Rattle.std.proofs.Common.{◌≡◌, ◌≢◌, ℕ, List, [], ◌∷◌, Result, Ok, Err, OnOk, sym, ◌∙◌, subst}
use Rattle.disk_model.specs.Disk.{Unsynced, IsCrashImage}
use Rattle.disk_model.specs.Device.{File, IsSettled}
use Rattle.disk_model.proofs.Images.{only_settled}
use Rattle.disks.specs.declared.name.DiskName.{DiskName}
use Rattle.disks.specs.declared.name.DiskName.TheVariants.{Root}
use Rattle.disks.specs.declared.trio.Trio.{Trio}
use Rattle.disks.specs.Trio.{pick}
use Rattle.disks.specs.Joint.{seen_of, now_of}
use Rattle.disks.specs.Moments.{SameElsewhere}
use Rattle.disks.proofs.Trios.{pick_each}
use Rattle.journal.specs.Image.{Head, ReadsAs}
use Rattle.journal.specs.Journal.{Extent, Holds}
use Rattle.volume.specs.Store.{Names, IsStore}
use Rattle.volume.specs.inner.Steps.{IsWhole}
use Rattle.volume.specs.Laws.{StoreStands}
use Rattle.volume.proofs.Finding.{found_standing}

-- a crash leaves of a settled file just what a read gives
pub settled_file : (file : File) (image : List ℕ) → IsSettled file → IsCrashImage file.now image → image ≡ file.seen
settled_file file image settled i = only_settled file.seen image
    (subst (λ (u : Unsynced). IsCrashImage u image) settled i)

-- what a crash may leave of one of three files
pub of_one : (files : Trio File) (name : DiskName) (image : List ℕ) → IsCrashImage (pick name (now_of files)) image
    → IsCrashImage (pick name files).now image
of_one files name image i = subst (λ (u : Unsynced). IsCrashImage u image)
    (pick_each (λ (f : File). f.now) name files) i

-- a crash leaves the byte of the root
pub root_left : (side : DiskName) (root : File) (image : List ℕ) (n : Names side root) → IsCrashImage root.now image
    → image ≡ n.byte ∷ []
root_left side root image n i = settled_file root image n.durable i ∙ n.seen

-- and the image of the journal
pub image_left : (journal : Extent) (format : ℕ) (head : Head) (bodies : List (List ℕ)) (file : File) (image : List ℕ)
    → Holds journal format head bodies file → IsCrashImage file.now image → ReadsAs format head bodies image
image_left journal format head bodies file image h i =
    subst (ReadsAs format head bodies) (sym (settled_file file image h.durable i)) h.reads

-- one image of a store is left whole
pub side_left : (journal : Extent) (side : DiskName) (format : ℕ) (head : Head) (bodies : List (List ℕ))
    (files : Trio File) (images : Trio (List ℕ))
    → Holds journal format head bodies (pick side files) → IsCrashImage (pick side (now_of files)) (pick side images)
    → ReadsAs format head bodies (pick side images)
side_left journal side format head bodies files images h i =
    image_left journal format head bodies (pick side files) (pick side images) h
    (of_one files side (pick side images) i)

pub store_stands : (journal : Extent) (side : DiskName) (format : ℕ) (head : Head) (bodies : List (List ℕ))
    (files : Trio File)
    → IsStore journal side format head bodies files → StoreStands journal side format head bodies files
store_stands journal side format head bodies files s = record {
  read = found_standing (seen_of files) side s.names.byte format head bodies s.names.seen s.names.lowest
      (subst (ReadsAs format head bodies) (sym (pick_each (λ (f : File). f.seen) side files)) s.image.reads);
  left = λ images i.
      found_standing images side s.names.byte format head bodies
      (root_left side files.root images.root s.names (i Root)) s.names.lowest
      (side_left journal side format head bodies files images s.image (i side));
}

-- the files of two names are another's where these two are the same
pub still_holds : (journal : Extent) (format : ℕ) (head : Head) (bodies : List (List ℕ)) (name other : DiskName)
    (old new : Trio File)
    → SameElsewhere name old new → other ≢ name → Holds journal format head bodies (pick other old)
    → Holds journal format head bodies (pick other new)
still_holds journal format head bodies name other old new same ne h =
    subst (Holds journal format head bodies) (sym (same other ne)) h

pub still_names : (side name : DiskName) (old new : Trio File) → SameElsewhere name old new → Root ≢ name
    → Names side old.root → Names side new.root
still_names side name old new same ne n = subst (Names side) (sym (same Root ne)) n

-- another disk than the root
pub not_root : (name : DiskName) → name ≢ Root → Root ≢ name
not_root name ne e = ne (sym e)

-- the bytes were written and synced
pub written_whole : {T E : Type 0} (result : Result T E) (bytes : List ℕ) (file there : File) → file ≡ there
    → OnOk result (file.seen ≡ bytes) → OnOk result (IsSettled file) → OnOk result (IsWhole bytes there)
written_whole (Err e) bytes file there is written durable = tt
written_whole (Ok x) bytes file there is written durable =
    subst (IsWhole bytes) is (record { seen = written; durable = durable })
