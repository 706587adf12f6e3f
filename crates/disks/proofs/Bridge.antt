-- From what is said of one disk with two beside it to what is said of the three.
use Rattle.std.proofs.Common.{◌≡◌, ◌≢◌, ℕ, List, [], ◌∷◌, ◌++◌, refl, sym, ◌∙◌, ap, subst}
use Rattle.std.specs.Prelude.{map}
use Rattle.disk_model.specs.Disk.{Unsynced, IsCrashImage}
use Rattle.disk_model.specs.Device.{File, Beside, Moment, moment, Device}
use Rattle.disk_model.specs.Moments.{Each, LeavesOnly}
use Rattle.disks.specs.declared.name.DiskName.{DiskName}
use Rattle.disks.specs.declared.name.DiskName.TheVariants.{Root, Left, Right}
use Rattle.disks.specs.declared.trio.Trio.{Trio}
use Rattle.disks.specs.Trio.{pick, others, each}
use Rattle.disks.specs.Joint.{JointMoment, AreCrashImages, Devices, now_of, seen_from, facing}
use Rattle.disks.specs.Moments.{AtEach, LeavesTogether, ChangedOnly, SameElsewhere}
use Rattle.disks.proofs.Trios.{pick_each, one_name, same_all, same_others}

-- a moment as one disk has it, from the files of the three
pub seen_now : (name : DiskName) (files : Trio File)
    → seen_from name (now_of files) ≡ moment (pick name files).now (others name files)
seen_now Root files = refl
seen_now Left files = refl
seen_now Right files = refl

-- one disk's view of a moment tells the whole moment
one_moment : (name : DiskName) (t s : JointMoment) → seen_from name t ≡ seen_from name s → t ≡ s
one_moment name t s e = same_all name t s (ap (λ (m : Moment). m.0) e) (ap (λ (m : Moment). m.1) e)

-- the moments that were added, as the three have them
record Added (name : DiskName) (old new : List JointMoment) (fresh : List Moment) : Type 0 where
  pub moments : List JointMoment
  pub added : new ≡ old ++ moments
  pub seen : map (seen_from name) moments ≡ fresh

abbrev first_or : {A : Type 0} → A → List A → A
first_or x [] = x
first_or x (y ∷ ys) = y

abbrev rest_of : {A : Type 0} → List A → List A
rest_of [] = []
rest_of (y ∷ ys) = ys

added_moments : (name : DiskName) (old new : List JointMoment) (fresh : List Moment)
    → map (seen_from name) new ≡ map (seen_from name) old ++ fresh → Added name old new fresh
added_moments name [] new fresh e = record { moments = new; added = refl; seen = e }
added_moments name (m ∷ old) [] fresh e = absurd (cc e)
added_moments name (m ∷ old) (n ∷ new) fresh e =
    let same : n ≡ m = one_moment name n m (ap (first_or (seen_from name n)) e) in
    let a = added_moments name old new fresh (ap rest_of e) in
    record {
      moments = a.moments;
      added = ap (λ (x : JointMoment). x ∷ new) same ∙ ap (λ (xs : List JointMoment). m ∷ xs) a.added;
      seen = a.seen;
    }

-- at a moment at which the files beside this disk are those of old
images_then : (name : DiskName) (P : List ℕ → Type 0) (old : Trio File) (at : JointMoment)
    → (others name at ≡ (moment (pick name at) (others name old)).1)
    → ((image : List ℕ) → IsCrashImage (pick name at) image → P image)
    → (images : Trio (List ℕ)) → AreCrashImages at images → ChangedOnly name P (now_of old) images
images_then name P old at beside has images i = record {
  there = has (pick name images) (i name);
  elsewhere = λ other ne.
      let same : others name at ≡ others name (now_of old) = beside
      ∙ ap (λ (m : Moment). m.1) (sym (seen_now name old)) in
      subst (λ (u : Unsynced). IsCrashImage u (pick other images))
      (same_others name at (now_of old) same other ne) (i other);
}

each_then : (name : DiskName) (P : List ℕ → Type 0) (old : Trio File) (ms : List JointMoment)
    → Each P (others name old) (map (seen_from name) ms) → AtEach (ChangedOnly name P (now_of old)) ms
each_then name P old [] e = tt
each_then name P old (m ∷ ms) e = (images_then name P old m e.0 e.1, each_then name P old ms e.2)

-- calls that left the other two as they were went to one disk
pub keeps_name : (name to : DiskName) (old new : Devices)
    → (facing to new).beside ≡ (facing name old).beside → to ≡ name
keeps_name name to old new kept = one_name name to new.files old.files kept

pub keeps_others : (name to : DiskName) (old new : Devices) → (facing to new).beside ≡ (facing name old).beside
    → SameElsewhere name old.files new.files
keeps_others name to old new kept =
    same_others name new.files old.files
    (subst (λ (n : DiskName). others n new.files ≡ others name old.files) (keeps_name name to old new kept) kept)

-- a run of calls that went to one disk
run_of_one : (name : DiskName) (old new : Devices) (P : List ℕ → Type 0)
    → LeavesOnly (facing name old) (facing name new) P → LeavesTogether old new (ChangedOnly name P (now_of old.files))
run_of_one name old new P run =
    let a = added_moments name old.past new.past run.fresh run.added in
    record {
      fresh = a.moments;
      added = a.added;
      each = each_then name P old.files a.moments (subst (Each P (others name old.files)) (sym a.seen) run.each);
      here = images_then name P old.files (now_of new.files)
          (ap (λ (m : Moment). m.1) (seen_now name new.files)
          ∙ ap (λ (b : Beside). (moment (pick name (now_of new.files)) b).1) run.kept)
          (λ image i. run.here image
          (subst (λ (u : Unsynced). IsCrashImage u image) (pick_each (λ (f : File). f.now) name new.files) i));
    }

-- The bridge: what is said of calls on one disk says of the three.
pub joint : (name to : DiskName) (old new : Devices) (P : List ℕ → Type 0)
    → LeavesOnly (facing name old) (facing to new) P → LeavesTogether old new (ChangedOnly name P (now_of old.files))
joint name to old new P run =
    run_of_one name old new P
    (subst (λ (n : DiskName). LeavesOnly (facing name old) (facing n new) P) (keeps_name name to old new run.kept) run)
