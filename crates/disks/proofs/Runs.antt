-- Runs of calls on three disks: what a crash at any moment of them leaves.
use Rattle.std.proofs.Common.{◌≡◌, ℕ, zero, suc, ◌+◌, ◌-◌, ◌<◌, ◌≤◌, ◌⊎◌, ⊎_elim, List, [], ◌∷◌, ◌++◌, length, get_or}
use Rattle.std.proofs.Common.{refl, sym, ◌∙◌, ap, subst, arith, append_assoc, length-append}
use Rattle.std.proofs.lemmas.List.{append-nil}
use Rattle.disk_model.specs.Disk.{Unsynced, IsCrashImage}
use Rattle.disk_model.specs.Device.{File, IsSettled, Device, file_of}
use Rattle.disk_model.proofs.Images.{only_settled}
use Rattle.disks.specs.declared.name.DiskName.{DiskName}
use Rattle.disks.specs.declared.name.DiskName.TheVariants.{Root, Left, Right}
use Rattle.disks.specs.declared.trio.Trio.{Trio}
use Rattle.disks.specs.Trio.{pick, each}
use Rattle.disks.specs.Joint.{JointMoment, AreCrashImages, AreSettled, MayStay, Devices, seen_of, now_of, moment_at}
use Rattle.disks.specs.Moments.{AtEach, LeavesTogether, ChangedOnly}
use Rattle.disks.specs.Disks.{files_of}
use Rattle.disks.proofs.Trios.{pick_each, is_or_not, same_trio}

each_append : (Q : Trio (List ℕ) → Type 0) (ms ns : List JointMoment) → AtEach Q ms → AtEach Q ns → AtEach Q (ms ++ ns)
each_append Q [] ns a b = b
each_append Q (m ∷ ms) ns a b = (a.0, each_append Q ms ns a.1 b)

each_weaker : (Q R : Trio (List ℕ) → Type 0) (ms : List JointMoment) → ((images : Trio (List ℕ)) → Q images → R images)
    → AtEach Q ms → AtEach R ms
each_weaker Q R [] f a = tt
each_weaker Q R (m ∷ ms) f a = ((λ images i. f images (a.0 images i)), each_weaker Q R ms f a.1)

-- the run has not begun
pub begins : (old : Devices) (Q : Trio (List ℕ) → Type 0)
    → ((images : Trio (List ℕ)) → AreCrashImages (now_of old.files) images → Q images) → LeavesTogether old old Q
begins old Q here = record { fresh = []; added = sym (append-nil old.past); each = tt; here = here }

-- one run after another
pub goes_on : (old mid new : Devices) (Q : Trio (List ℕ) → Type 0) → LeavesTogether old mid Q
    → LeavesTogether mid new Q → LeavesTogether old new Q
goes_on old mid new Q first then = record {
  fresh = first.fresh ++ then.fresh;
  added = then.added ∙ ap (λ (ms : List JointMoment). ms ++ then.fresh) first.added
      ∙ append_assoc old.past first.fresh then.fresh;
  each = each_append Q first.fresh then.fresh first.each then.each;
  here = then.here;
}

-- what holds of the images implies this
pub weaker : (old new : Devices) (Q R : Trio (List ℕ) → Type 0)
    → LeavesTogether old new Q → ((images : Trio (List ℕ)) → Q images → R images) → LeavesTogether old new R
weaker old new Q R run f = record {
  fresh = run.fresh;
  added = run.added;
  each = each_weaker Q R run.fresh f run.each;
  here = λ images i. f images (run.here images i);
}

-- where the one disk's image is still such as it might be before, all three are
pub unchanged : (name : DiskName) (files : Trio File) (images : Trio (List ℕ))
    → ChangedOnly name (IsCrashImage (pick name files).now) (now_of files) images → AreCrashImages (now_of files) images
unchanged name files images c other =
    ⊎_elim
    (λ is. subst (λ (n : DiskName). IsCrashImage (pick n (now_of files)) (pick n images)) (sym is)
    (subst (λ (u : Unsynced). IsCrashImage u (pick name images))
    (sym (pick_each (λ (f : File). f.now) name files)) c.there))
    (λ ne. c.elsewhere other ne)
    (is_or_not other name)

-- Syncs and looks: a crash leaves no more than it might before, and what follows needs no more than what stood then.
pub narrows : (old mid new : Devices) → LeavesTogether old mid (AreCrashImages (now_of old.files))
    → LeavesTogether mid new (AreCrashImages (now_of mid.files))
    → LeavesTogether old new (AreCrashImages (now_of old.files))
narrows old mid new first then =
    goes_on old mid new (AreCrashImages (now_of old.files)) first
    (weaker mid new (AreCrashImages (now_of mid.files)) (AreCrashImages (now_of old.files)) then first.here)

-- a moment of a list, or the one behind it
abbrev at_or : List JointMoment → JointMoment → ℕ → JointMoment
at_or ms now k = get_or ms k now

at_front : (ms ns : List JointMoment) (x y : JointMoment) (k : ℕ) → k < length ms → at_or (ms ++ ns) x k ≡ at_or ms y k
at_front [] ns x y k h = absurd (omega (arith, h))
at_front (m ∷ ms) ns x y zero h = refl
at_front (m ∷ ms) ns x y (suc k) h = at_front ms ns x y k (omega (arith, h))

at_back : (ms ns : List JointMoment) (x : JointMoment) (k : ℕ) → length ms ≤ k
    → at_or (ms ++ ns) x k ≡ at_or ns x (k - length ms)
at_back [] ns x k h = let same : k ≡ k - 0 = omega arith in ap (at_or ns x) same
at_back (m ∷ ms) ns x zero h = absurd (omega (arith, h))
at_back (m ∷ ms) ns x (suc k) h =
    let same : k - length ms ≡ suc k - suc (length ms) = omega arith in at_back ms ns x k (omega (arith, h))
    ∙ ap (at_or ns x) same

at_end : (ms : List JointMoment) (x : JointMoment) → at_or ms x (length ms) ≡ x
at_end [] x = refl
at_end (m ∷ ms) x = at_end ms x

-- the moment behind all earlier ones is now
pub last_moment : (devices : Devices) → moment_at devices (length devices.past) ≡ now_of devices.files
last_moment devices = at_end devices.past (now_of devices.files)

-- a moment that was reached stays what it was
pub earlier : (old new : Devices) (fresh : List JointMoment) → new.past ≡ old.past ++ fresh
    → (k : ℕ) → k < length old.past → moment_at new k ≡ moment_at old k
earlier old new fresh added k h =
    ap (λ (ms : List JointMoment). at_or ms (now_of new.files) k) added
    ∙ at_front old.past fresh (now_of new.files) (now_of old.files) k h

each_at : (Q : Trio (List ℕ) → Type 0) (ms : List JointMoment) (now : JointMoment) → AtEach Q ms
    → ((images : Trio (List ℕ)) → AreCrashImages now images → Q images)
    → (k : ℕ) → (images : Trio (List ℕ)) → AreCrashImages (at_or ms now k) images → Q images
each_at Q [] now a here k images i = here images i
each_at Q (m ∷ ms) now a here zero images i = a.0 images i
each_at Q (m ∷ ms) now a here (suc k) images i = each_at Q ms now a.1 here k images i

-- what a crash at the k-th moment leaves, where that is one of the run
pub at_moment : (old new : Devices) (Q : Trio (List ℕ) → Type 0) → LeavesTogether old new Q → (k : ℕ)
    → length old.past ≤ k
    → (images : Trio (List ℕ)) → AreCrashImages (moment_at new k) images → Q images
at_moment old new Q run k low images i =
    each_at Q run.fresh (now_of new.files) run.each run.here (k - length old.past) images
    (subst (λ (m : JointMoment). AreCrashImages m images)
    (ap (λ (ms : List JointMoment). at_or ms (now_of new.files) k) run.added
    ∙ at_back old.past run.fresh (now_of new.files) k low) i)

one_settled : (file : File) (u : Unsynced) (seen image : List ℕ) → IsSettled file → u ≡ file.now → seen ≡ file.seen
    → IsCrashImage u image → image ≡ seen
one_settled file u seen image settled now is i =
    only_settled file.seen image (subst (λ (v : Unsynced). IsCrashImage v image) (now ∙ settled) i) ∙ sym is

-- three settled files have one image each
pub settled_images : (files : Trio File) → AreSettled files → (images : Trio (List ℕ))
    → AreCrashImages (now_of files) images → images ≡ seen_of files
settled_images files settled images i =
    same_trio images (seen_of files) (λ name.
    one_settled (pick name files) (pick name (now_of files)) (pick name (seen_of files)) (pick name images)
    (settled name)
    (pick_each (λ (f : File). f.now) name files) (pick_each (λ (f : File). f.seen) name files) (i name))

-- what the reads give of the three is one of their images
pub reads_may_stay : {D : Type 0} (known : D → Device) (trio : Trio D)
    → MayStay (file_of (known trio.root)) → MayStay (file_of (known trio.left)) → MayStay (file_of (known trio.right))
    → (name : DiskName) → IsCrashImage (pick name (now_of (files_of known trio)))
    (pick name (seen_of (files_of known trio)))
reads_may_stay known trio root left right Root = root
reads_may_stay known trio root left right Left = left
reads_may_stay known trio root left right Right = right
