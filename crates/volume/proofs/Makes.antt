-- Making a store: while the images are written the root is empty, and while the root is written both are there.
use Rattle.std.proofs.Common.{◌≡◌, ◌≢◌, ◌⊎◌, ⊎_elim, inl, inr, ℕ, ◌≤◌, List, [], length, get_or, refl, sym, ◌∙◌, ap}
use Rattle.std.proofs.Common.{subst, arith}
use Rattle.disk_model.specs.Disk.{IsCrashImage, IsAny, Torn}
use Rattle.disk_model.specs.Device.{Device, File, IsSettled, file_of}
use Rattle.disks.specs.declared.name.DiskName.{DiskName}
use Rattle.disks.specs.declared.name.DiskName.TheVariants.{Root, Left, Right}
use Rattle.disks.specs.declared.trio.Trio.{Trio}
use Rattle.disks.specs.Trio.{pick}
use Rattle.disks.specs.Disks.{files_of}
use Rattle.disks.specs.Joint.{AreCrashImages, Devices, MayStay, seen_of, now_of}
use Rattle.disks.specs.Moments.{LeavesTogether, ChangedOnly, SameElsewhere}
use Rattle.disks.proofs.Runs.{begins, goes_on, reads_may_stay, weaker}
use Rattle.journal.specs.Image.{Head, ReadsAs}
use Rattle.volume.specs.Store.{Names, found_of}
use Rattle.volume.specs.Store.FoundImages.{Blank}
use Rattle.volume.specs.Crashes.{MayFind, IsBlankOrEmpty, IsEmptyStore, OnlyLooks}
use Rattle.volume.specs.inner.Steps.{IsBlank, IsWhole, IsMade}
use Rattle.volume.proofs.Finding.{found_blank}
use Rattle.volume.proofs.Standing.{settled_file, of_one}
use Rattle.volume.proofs.Roots.{torn_empty, either_found}

abbrev pub BlankOrEmpty : Head → Trio (List ℕ) → Type 0
BlankOrEmpty head files = (found_of files ≡ Blank) ⊎ IsEmptyStore head (found_of files)

-- the root is blank as long as another disk is written
pub still_blank : (name : DiskName) (old new : Trio File) → SameElsewhere name old new → Root ≢ name → IsBlank old.root
    → IsBlank new.root
still_blank name old new same ne b = subst IsBlank (sym (same Root ne)) b

-- while an image is written
pub image_run : (head : Head) (name : DiskName) (old new : Devices) → Root ≢ name → IsBlank old.files.root
    → LeavesTogether old new (ChangedOnly name IsAny (now_of old.files)) → LeavesTogether old new (BlankOrEmpty head)
image_run head name old new ne b run =
    weaker old new (ChangedOnly name IsAny (now_of old.files)) (BlankOrEmpty head) run
    (λ images c. inl (found_blank images
    (settled_file old.files.root images.root b.durable (c.elsewhere Root ne) ∙ b.seen)))

-- an image that is whole is left whole
whole_left : (format : ℕ) (head : Head) (bodies : List (List ℕ)) (image : List ℕ) (side : DiskName) (files : Trio File)
    (images : Trio (List ℕ))
    → ReadsAs format head bodies image → IsWhole image (pick side files)
    → IsCrashImage (pick side (now_of files)) (pick side images)
    → ReadsAs format head bodies (pick side images)
whole_left format head bodies image side files images reads w i =
    subst (ReadsAs format head bodies)
    (sym (settled_file (pick side files) (pick side images) w.durable (of_one files side (pick side images) i)
    ∙ w.seen)) reads

-- while the root is written
pub root_run : (head : Head) (image : List ℕ) (old new : Devices) → ReadsAs 2 head [] image → IsBlank old.files.root
    → IsWhole image old.files.left → IsWhole image old.files.right
    → LeavesTogether old new (ChangedOnly Root (Torn 0 1 old.files.root.seen) (now_of old.files))
    → LeavesTogether old new (BlankOrEmpty head)
root_run head image old new reads b l r run =
    weaker old new (ChangedOnly Root (Torn 0 1 old.files.root.seen) (now_of old.files)) (BlankOrEmpty head) run
    (λ images c.
    let torn : Torn 0 1 [] images.root = subst (λ (bytes : List ℕ). Torn 0 1 bytes images.root) b.seen c.there in
    ⊎_elim
    (λ none. inl (found_blank images none))
    (λ one. inr (either_found images (get_or images.root 0 0) Left Right 2 2 head head [] [] one (λ e. absurd (cc e))
    (λ e. absurd (cc e)) (λ e. absurd (cc e))
    (whole_left 2 head [] image Left old.files images reads l (c.elsewhere Left (λ e. absurd (cc e))))
    (whole_left 2 head [] image Right old.files images reads r (c.elsewhere Right (λ e. absurd (cc e))))))
    (torn_empty images.root torn))

-- how far the making came: the root is blank, and both images are there
pub record BothWritten (image : List ℕ) (new : Trio File) : Type 0 where
  pub blank : IsBlank new.root
  pub first : IsWhole image new.left
  pub second : IsWhole image new.right

pub second_run : (head : Head) (old mid new : Devices) → IsBlank old.files.root → SameElsewhere Left old.files mid.files
    → LeavesTogether old mid (ChangedOnly Left IsAny (now_of old.files))
    → LeavesTogether mid new (ChangedOnly Right IsAny (now_of mid.files))
    → LeavesTogether old new (BlankOrEmpty head)
second_run head old mid new b same first second =
    goes_on old mid new (BlankOrEmpty head)
    (image_run head Left old mid (λ e. absurd (cc e)) b first)
    (image_run head Right mid new (λ e. absurd (cc e))
    (still_blank Left old.files mid.files same (λ e. absurd (cc e)) b) second)

pub both_written : (image : List ℕ) (old mid new : Trio File) → IsBlank old.root → SameElsewhere Left old mid
    → SameElsewhere Right mid new
    → IsWhole image mid.left → IsWhole image new.right → BothWritten image new
both_written image old mid new b same then l r = record {
  blank = still_blank Right mid new then (λ e. absurd (cc e)) (still_blank Left old mid same (λ e. absurd (cc e)) b);
  first = subst (IsWhole image) (sym (then Left (λ e. absurd (cc e)))) l;
  second = r;
}

pub third_run : (head : Head) (image : List ℕ) (old mid new : Devices) → ReadsAs 2 head [] image
    → BothWritten image mid.files
    → LeavesTogether old mid (BlankOrEmpty head)
    → (IsSettled mid.files.root
    → LeavesTogether mid new (ChangedOnly Root (Torn 0 1 mid.files.root.seen) (now_of mid.files)))
    → LeavesTogether old new (BlankOrEmpty head)
third_run head image old mid new reads w so_far run =
    goes_on old mid new (BlankOrEmpty head) so_far
    (root_run head image mid new reads w.blank w.first w.second (run w.blank.durable))

-- so the root has no byte when it is written
pub blank_short : (image : List ℕ) (files : Trio File) → BothWritten image files → length files.root.seen ≤ 1
blank_short image files w = omega (arith, ap length w.blank.seen)

-- the root was written too
pub made : (image : List ℕ) (mid last : Trio File) → BothWritten image mid → SameElsewhere Root mid last
    → Names Left last.root → IsMade image last
made image mid last w same n = record {
  names = n;
  there = subst (IsWhole image) (sym (same Left (λ e. absurd (cc e)))) w.first;
}

abbrev pub OldOrEmpty : Head → Devices → Trio (List ℕ) → Type 0
OldOrEmpty head old files = MayFind (now_of old.files) (found_of files) ⊎ IsEmptyStore head (found_of files)

-- what a crash at the start might leave may be found
pub looks_run : (head : Head) (old new : Devices) → LeavesTogether old new (AreCrashImages (now_of old.files))
    → LeavesTogether old new (OldOrEmpty head old)
looks_run head old new run =
    weaker old new (AreCrashImages (now_of old.files)) (OldOrEmpty head old) run (λ images i. inl (images, i, refl))

pub not_begun : (head : Head) (old : Devices) → LeavesTogether old old (OldOrEmpty head old)
not_begun head old = looks_run head old old (begins old (AreCrashImages (now_of old.files)) (λ images i. i))

-- the root was found empty, so that no store is what a crash at the start might leave
pub makes_run : (head : Head) (old mid new : Devices) → AreCrashImages (now_of old.files) (seen_of old.files)
    → old.files.root.seen ≡ []
    → LeavesTogether old mid (AreCrashImages (now_of old.files)) → LeavesTogether mid new (BlankOrEmpty head)
    → LeavesTogether old new (OldOrEmpty head old)
makes_run head old mid new reads empty first then =
    goes_on old mid new (OldOrEmpty head old) (looks_run head old mid first)
    (weaker mid new (BlankOrEmpty head) (OldOrEmpty head old) then (λ images m.
    ⊎_elim
    (λ blank. inl (seen_of old.files, reads, blank ∙ sym (found_blank (seen_of old.files) empty)))
    (λ made. inr made)
    m))

-- no disk was called
pub no_look : (old : Devices) → OnlyLooks old old
no_look old = record {
  seen = refl;
  leaves = begins old (AreCrashImages (now_of old.files)) (λ images i. i);
  settled = λ name before. before;
}

-- what the reads give now is one of what a crash now may leave
pub left_now : {D : Type 0} (known : D → Device) (trio : Trio D) (head : Head)
    → MayStay (file_of (known trio.root)) → MayStay (file_of (known trio.left)) → MayStay (file_of (known trio.right))
    → ((images : Trio (List ℕ)) → AreCrashImages (now_of (files_of known trio)) images
    → IsBlankOrEmpty head (found_of images))
    → IsBlankOrEmpty head (found_of (seen_of (files_of known trio)))
left_now known trio head root left right here =
    here (seen_of (files_of known trio)) (reads_may_stay known trio root left right)
