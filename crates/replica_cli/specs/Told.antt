-- Private, the proof of a law of stores: what is told of a store is one of what a crash now may leave. It stands here
-- since the checker takes the proof of a law from specs/ alone.
use Rattle.std.specs.Prelude.{◌≡◌, ℕ, Bool, true, false, IsTrue, List, Result, Ok, Err, refl}
use Rattle.std.proofs.Common.{sym, subst}
use Rattle.disk_model.specs.Device.{Device, file_of}
use Rattle.disks.specs.Disks.{disks_known}
use Rattle.disks.specs.Joint.{JointMoment, MayStay, seen_of}
use Rattle.disks.specs.declared.name.DiskName.{DiskName}
use Rattle.disks.proofs.Runs.{reads_may_stay}
use Rattle.journal.specs.Image.{Head}
use Rattle.replica_volume.specs.Settled.{now_at}
use Rattle.replica_volume.specs.Steps.{Chronicle, steps_of}
use Rattle.replica_volume.specs.Store.{MayOpenAs, holds_steps, opened_as, with_steps}
use Rattle.store_commands.specs.Found.{in_short}
use Rattle.store_commands.specs.Store.{MayStay as Stays}
use Rattle.volume.specs.Store.{FoundImages, found_of}
use Rattle.volume.specs.Store.FoundImages.{Blank as NoImages, Damaged as BrokenImage, Stands as StandingImage}
use Rattle.replica_cli.specs.Store.{found_in, image_as, images_as, store_known}
use Rattle.replica_cli.specs.declared.store.StoreOnDisks.{StoreOnDisks}

-- in short a command finds what a replica finds
short_image : (side : DiskName) (format : ℕ) (head : Head) (bodies : List (List ℕ)) (r : Result Chronicle ℕ)
    → in_short (image_as side format head bodies r) ≡ opened_as (holds_steps side format head r)
short_image side format head bodies (Ok read) = refl
short_image side format head bodies (Err place) = refl

pub short_images : (f : FoundImages) → in_short (images_as f) ≡ opened_as (with_steps f)
short_images NoImages = refl
short_images (BrokenImage disk place) = refl
short_images (StandingImage side format head bodies) = short_image side format head bodies (steps_of format head bodies)

pub may_stay : {D : Type 0} (tells : Bool)
    (known : D → Device) (law : (disk : D) → IsTrue tells → MayStay (file_of (known disk)))
    (s : StoreOnDisks D) → Stays (store_known tells known s) (store_known tells known s).found
may_stay true known law s =
    let d = disks_known known s.disks in let trio = s.disks.trio in let seen = seen_of d.files in (
      refl,
      subst (λ (m : JointMoment). MayOpenAs m (in_short (found_in seen))) (sym (now_at true d refl)) (
        seen,
        reads_may_stay known trio (law trio.root refl) (law trio.left refl) (law trio.right refl),
        short_images (found_of seen),
      ),
    )
may_stay false known law s = tt
