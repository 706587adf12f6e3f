-- A run that begins with a settled file, and one that ends with a sync.
use Rattle.std.proofs.Common.{◌≡◌, ℕ, List, refl, sym, subst, Result, Ok, Err, OnOk, OnErr}
use Rattle.disk_model.specs.Disk.{Unsynced, IsCrashImage, settled, wrote, was_cut, Torn, Cut}
use Rattle.disk_model.specs.Device.{Device}
use Rattle.disk_model.specs.Moments.{Took, Looked, LeavesOnly}
use Rattle.disk_model.proofs.Images.{only_settled, torn_image, cut_image}
use Rattle.disk_model.proofs.Runs.{started, took, looked}

-- the one image of a settled file has P
pub settled_image : (u : Unsynced) (bytes : List ℕ) (P : List ℕ → Type 0) → u ≡ settled bytes → P bytes
    → (image : List ℕ) → IsCrashImage u image → P image
settled_image u bytes P e p image i =
    subst P (sym (only_settled bytes image (subst (λ (v : Unsynced). IsCrashImage v image) e i))) p

pub begun : (old : Device) (bytes : List ℕ) (P : List ℕ → Type 0)
    → old.now ≡ settled bytes → P bytes → LeavesOnly old old P
begun old bytes P e p = started old P (settled_image old.now bytes P e p)

-- a sync, whether it succeeded or not
pub synced : {T E : Type 0} (old mid new : Device) (bytes : List ℕ) (P : List ℕ → Type 0) (result : Result T E)
    → LeavesOnly old mid P → OnOk result (Took mid new (settled bytes)) → OnErr result (Looked mid new) → P bytes
    → LeavesOnly old new P
synced old mid new bytes P (Ok x) run ok err p =
    took old mid new (settled bytes) P run ok (settled_image (settled bytes) bytes P refl p)
synced old mid new bytes P (Err e) run ok err p = looked old mid new P run err

-- the images of a settled file that was written to, or cut
pub torn_images : (u : Unsynced) (bytes : List ℕ) (at n : ℕ) → u ≡ settled bytes → (image : List ℕ)
    → IsCrashImage (wrote at n u) image → Torn at n bytes image
torn_images u bytes at n e image i = torn_image bytes at n image
    (subst (λ (v : Unsynced). IsCrashImage (wrote at n v) image) e i)

pub cut_images : (u : Unsynced) (bytes : List ℕ) (to : ℕ) → u ≡ settled bytes → (image : List ℕ)
    → IsCrashImage (was_cut to u) image → Cut to bytes image
cut_images u bytes to e image i = cut_image bytes to image
    (subst (λ (v : Unsynced). IsCrashImage (was_cut to v) image) e i)
