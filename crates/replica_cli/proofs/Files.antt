-- What is found of three files: in the words of a volume, and as commands find it.
use Rattle.std.specs.Prelude.{IsTrue, ◌-◌, ◌^◌, min}
use Rattle.std.proofs.Common.{◌≡◌, ◌≢◌, ℕ, Bool, true, false, ◌+◌, if◌then◌else◌, List, [], ◌∷◌, length, Some}
use Rattle.std.proofs.Common.{None, Result, Ok, Err, refl, sym, ◌∙◌, ap, subst, ⊎_elim, arith}
use Rattle.conflicts.specs.State.{State, Text}
use Rattle.disk_model.specs.Device.{Device}
use Rattle.disks.specs.declared.name.DiskName.{DiskName}
use Rattle.disks.specs.declared.trio.Trio.{Trio}
use Rattle.disks.specs.Trio.{pick}
use Rattle.disks.specs.Joint.{seen_of}
use Rattle.journal.specs.Image.{Head, up_to_gate}
use Rattle.journal.specs.Reader.{Reading, read_image}
use Rattle.journal.specs.Reader.Reading.{Damaged as Broken, Stands as Reads}
use Rattle.replica_core.specs.Replica.{Found as Left, Stored}
use Rattle.replica_state.specs.Held.{meaning}
use Rattle.replica_volume.specs.Steps.{Chronicle, state_at, steps_of}
use Rattle.replica_volume.specs.Store.{IsMoved, IsRespelling, IsSameOrMoved, StoreFound, holds_steps, with_steps}
use Rattle.replica_volume.specs.Store.StoreFound.{Blank as NoStore, Damaged as BrokenStore, Holds}
use Rattle.replica_volume.specs.Volume.{IsOpenVolume, KeepsHistory, devices, length_with, volume_known}
use Rattle.replica_volume.specs.declared.replica.Volume.{Volume}
use Rattle.store_commands.specs.Changes.{IsNeeded, IsNow, NeedsNow}
use Rattle.store_commands.specs.Found.{Blank, Damaged, Found, IsTold, Stands, in_short, standing_in}
use Rattle.store_commands.specs.Store.{is_blank}
use Rattle.volume.specs.Store.{FoundImages, chosen, found_by, found_in as image_found, found_of}
use Rattle.volume.specs.Store.FoundImages.{Blank as NoImages, Damaged as BrokenImage, Stands as StandingImage}
use Rattle.volume.proofs.Finding.{found_blank}
use Rattle.volume.proofs.Standing.{store_stands}
use Rattle.store_commands.proofs.Moving.{needs_itself}
use Rattle.replica_cli.specs.Store.{found_in, image_as, image_of, image_with, images_as}

-- ---- what a volume finds is what commands find

-- damage, in the words of commands; the rest does not matter
abbrev damage_in : StoreFound → Found
damage_in NoStore = Blank
damage_in (BrokenStore disk place) = Damaged disk place
damage_in (Holds side format head h) = Blank

holds_some : (side : DiskName) (format : ℕ) (head : Head) (r : Result Chronicle ℕ)
    → holds_steps side format head r ≢ NoStore
holds_some side format head (Ok read) e = absurd (cc e)
holds_some side format head (Err place) e = absurd (cc e)

pub blank_as : (f : FoundImages) → with_steps f ≡ NoStore → images_as f ≡ Blank
blank_as NoImages e = refl
blank_as (BrokenImage disk place) e = absurd (cc e)
blank_as (StandingImage side format head bodies) e =
    absurd (holds_some side format head (steps_of format head bodies) e)

damaged_image : (side : DiskName) (format : ℕ) (head : Head) (bodies : List (List ℕ)) (r : Result Chronicle ℕ)
    (disk : DiskName) (place : ℕ)
    → holds_steps side format head r ≡ BrokenStore disk place → image_as side format head bodies r ≡ Damaged disk place
damaged_image side format head bodies (Ok read) disk place e = absurd (cc e)
damaged_image side format head bodies (Err at) disk place e = ap damage_in e

pub damaged_as : (f : FoundImages) (disk : DiskName) (place : ℕ) → with_steps f ≡ BrokenStore disk place
    → images_as f ≡ Damaged disk place
damaged_as NoImages disk place e = absurd (cc e)
damaged_as (BrokenImage other at) disk place e = ap damage_in e
damaged_as (StandingImage side format head bodies) disk place e =
    damaged_image side format head bodies (steps_of format head bodies) disk place e

-- ---- an image that opening moved is found as the one that was there

-- both say the same history, and its bodies in format 2 are those that it was moved to
respelled : (side : DiskName) (head : Head) (bodies : List (List ℕ)) (new : FoundImages)
    → IsRespelling side head bodies new
    → (images_as new ≡ image_as side 1 head bodies (steps_of 1 head bodies))
    × (image_of new ≡ image_with 1 head bodies (steps_of 1 head bodies))
respelled side head bodies new r = rw (r.found, r.says, r.said) (refl, refl)

moved : (old new : FoundImages) → IsMoved old new → (images_as new ≡ images_as old) × (image_of new ≡ image_of old)
moved NoImages new is = absurd is
moved (BrokenImage disk place) new is = absurd is
moved (StandingImage side format head bodies) new is =
    rw is.0 (respelled side head bodies new is.1)

pub same_or_moved : (old new : FoundImages) → IsSameOrMoved old new
    → (images_as new ≡ images_as old) × (image_of new ≡ image_of old)
same_or_moved old new is =
    ⊎_elim (λ same. (ap images_as same, ap image_of same)) (λ move. moved old new move) is

-- ---- what stands in an open volume

abbrev standing_with : List Text → State → ℕ → ℕ → Found
standing_with uids s e l =
    Stands (record { state = s; need = λ xs y. min (length_with e uids xs y) (2 ^ 64 - 1); limit = l })

same_standing : (uids : List Text) (s t : State) (e f l m : ℕ) → s ≡ t → e ≡ f → l ≡ m
    → standing_with uids s e l ≡ standing_with uids t f m
same_standing uids s t e f l m state length limit =
    ap (λ (x : State). standing_with uids x e l) state
    ∙ ap (λ (n : ℕ). standing_with uids t n l) length
    ∙ ap (λ (n : ℕ). standing_with uids t f n) limit

pub stands_as : {D : Type 0} (tells : Bool) (known : D → Device) (v : Volume D) → v.staged ≡ []
    → (k : KeepsHistory v (devices known v).files)
    → found_in (seen_of (devices known v).files) ≡ Stands (standing_in (volume_known tells known v))
stands_as tells known v nothing k =
    let files = (devices known v).files in
    let read = (store_stands v.journal v.side 2 k.head k.bodies files k.stands).read in
    let extent = k.stands.image.extent in
    let unstaged : length (up_to_gate 2 k.head k.bodies) + 1 ≡ v.journal.length + length v.staged =
    omega (arith, extent.all, ap length nothing) in
    ap images_as read
    ∙ ap (λ (r : Result Chronicle ℕ). image_as v.side 2 k.head k.bodies r) k.says
    ∙ same_standing v.uids.uids (state_at k.head k.history) (meaning v.state)
    (length (up_to_gate 2 k.head k.bodies) + 1) (v.journal.length + length v.staged)
    k.head.limit v.journal.limit (sym k.leaves) unstaged (sym extent.limit)

-- ---- where there is no store, and where there is one

pub blank_in : (files : Trio (List ℕ)) → files.root ≡ [] → found_in files ≡ Blank
blank_in files e = ap images_as (found_blank files e)

some_image : (side : DiskName) (format : ℕ) (head : Head) (bodies : List (List ℕ)) (r : Result Chronicle ℕ)
    → is_blank (image_as side format head bodies r) ≡ false
some_image side format head bodies (Ok read) = refl
some_image side format head bodies (Err place) = refl

some_reading : (side : DiskName) (r : Reading) → is_blank (images_as (image_found side r)) ≡ false
some_reading side (Broken place) = refl
some_reading side (Reads format head bodies) = some_image side format head bodies (steps_of format head bodies)

some_by : (root : List ℕ) (files : Trio (List ℕ)) → root ≢ [] → is_blank (images_as (found_by root files)) ≡ false
some_by [] files ne = absurd (ne refl)
some_by (byte ∷ []) files ne = some_reading (chosen byte) (read_image (pick (chosen byte) files))
some_by (byte ∷ second ∷ rest) files ne = refl

pub some_in : (files : Trio (List ℕ)) → files.root ≢ [] → is_blank (found_in files) ≡ false
some_in files ne = some_by files.root files ne

-- ---- what is told

pub told_if : (tells : Bool) (f g : Found) → (IsTrue tells → f ≡ g) → IsTold (if tells then Some f else None) g
told_if true f g h = h refl
told_if false f g h = tt

pub now_if : (tells : Bool) (f : Found) (now : Left Stored) → (IsTrue tells → in_short f ≡ now)
    → IsNow now (if tells then Some f else None)
now_if true f now h = h refl
now_if false f now h = tt

-- what is found needs what it needed
pub need_if : (tells : Bool) (f found : Found) → (IsTrue tells → f ≡ found)
    → IsNeeded found [] (if tells then Some f else None)
need_if true f found h = subst (λ (g : Found). NeedsNow found [] g) (sym (h refl)) (needs_itself found)
need_if false f found h = tt

-- and so does a volume that was open, once it is closed
pub closes_so : {D : Type 0} (tells : Bool) (known : D → Device) (v : Volume D) → IsOpenVolume tells known v
    → IsNeeded (Stands (standing_in (volume_known tells known v))) []
    (if tells then Some (found_in (seen_of (devices known v).files)) else None)
closes_so tells known v is =
    need_if tells (found_in (seen_of (devices known v).files)) (Stands (standing_in (volume_known tells known v)))
    (λ t. stands_as tells known v is.nothing (is.keeps t))
