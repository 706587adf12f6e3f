-- A store that was looked at, or moved to the present format: what stands is what stood, and a crash leaves no more
-- than it might.
use Rattle.std.specs.Prelude.{IsTrue}
use Rattle.std.proofs.Common.{◌≡◌, inl, ℕ, ◌<◌, ◌≤◌, Bool, true, false, if◌then◌else◌, List, [], length, Option, Some}
use Rattle.std.proofs.Common.{refl, sym, ◌∙◌, ap, subst, arith, length-append}
use Rattle.disks.specs.declared.trio.Trio.{Trio}
use Rattle.disks.specs.Joint.{AreCrashImages, Devices, JointMoment, now_of, seen_of}
use Rattle.disks.specs.Moments.{LeavesTogether}
use Rattle.disks.proofs.Runs.{at_moment, begins, earlier, weaker}
use Rattle.replica_core.specs.Replica.{Found as Left, Stored}
use Rattle.replica_volume.specs.Opening.{LeavesAsBefore}
use Rattle.replica_volume.specs.Settled.{now_at}
use Rattle.replica_volume.specs.Store.{MayOpenAs, opens_as}
use Rattle.replica_volume.specs.Volume.{moments}
use Rattle.store_commands.specs.Changes.{IsNow, Passes}
use Rattle.store_commands.specs.Found.{Found, IsUntouched, in_short}
use Rattle.store_commands.specs.Store.{Finds, FindsSome, Keeps}
use Rattle.volume.specs.Crashes.{OnlyLooks}
use Rattle.replica_cli.specs.Store.{bytes_of, found_in, store_seen}
use Rattle.replica_cli.proofs.Files.{need_if, now_if, told_if}

pub told_at : (tells : Bool) (d : Devices) → IsTrue tells → moments tells d ≡ length d.past
told_at tells d t = ap (λ (b : Bool). if b then length d.past else 0) t

-- moments only pass
pub later_if : (tells : Bool) (old new : Devices) → (IsTrue tells → length old.past ≤ length new.past)
    → moments tells old ≤ moments tells new
later_if true old new h = h refl
later_if false old new h = omega arith

pub grows : (old new : Devices) (Q : Trio (List ℕ) → Type 0) → LeavesTogether old new Q
    → length old.past ≤ length new.past
grows old new Q run = omega (arith, ap length run.added ∙ length-append old.past run.fresh)

-- an earlier moment leaves what it left
pub earlier_crash : (tells : Bool) (old new : Devices) → (Q : Trio (List ℕ) → Type 0)
    → (IsTrue tells → LeavesTogether old new Q)
    → (k : ℕ) (o : Left Stored) → k < moments tells old → (store_seen tells new).crash k o
    → (store_seen tells old).crash k o
earlier_crash tells old new Q run k o low crash =
    let t = crash.0 in let files = crash.1.0 in let r = run t in (
      t,
      (
        files,
        subst (λ (m : JointMoment). AreCrashImages m files)
            (earlier old new r.fresh r.added k (subst (λ (n : ℕ). k < n) (told_at tells old t) low)) crash.1.1,
        crash.1.2,
      ),
    )

-- what a crash at a moment of the run leaves has what the run says
pub crash_since : (tells : Bool) (old new : Devices) (Q : Trio (List ℕ) → Type 0)
    → (IsTrue tells → LeavesTogether old new Q)
    → (k : ℕ) (o : Left Stored) → moments tells old ≤ k → (store_seen tells new).crash k o
    → IsTrue tells × ((files : Trio (List ℕ)) × Q files × (o ≡ opens_as files))
crash_since tells old new Q run k o low crash =
    let t = crash.0 in let files = crash.1.0 in (
      t,
      (
        files,
        at_moment old new Q (run t) k (subst (λ (n : ℕ). n ≤ k) (told_at tells old t) low) files crash.1.1,
        crash.1.2,
      ),
    )

-- what a crash now may leave
pub crash_now : (tells : Bool) (d : Devices) (o : Left Stored) → IsTrue tells → MayOpenAs (now_of d.files) o
    → (store_seen tells d).crash (moments tells d) o
crash_now tells d o t may = (t, subst (λ (m : JointMoment). MayOpenAs m o) (sym (now_at tells d t)) may)

-- ---- the whole

-- reads find what they found, and a crash on the way leaves what opens as after one at the start
pub record Stays (old new : Devices) : Type 0 where
  pub found : found_in (seen_of new.files) ≡ found_in (seen_of old.files)
  pub run : LeavesAsBefore old new

-- what may be found after a crash, as before
abbrev AsBefore : Devices → Trio (List ℕ) → Type 0
AsBefore old files = MayOpenAs (now_of old.files) (opens_as files)

-- nothing was written
pub only_looked : (old new : Devices) → OnlyLooks old new → Stays old new
only_looked old new looks = record {
  found = ap found_in looks.seen;
  run = weaker old new (AreCrashImages (now_of old.files)) (AsBefore old) looks.leaves
      (λ files images. (files, images, refl));
}

-- whatever is told of the bytes then
pub looked : (tells : Bool) (old new : Devices) (found : Found) (told : Option Found)
    (bytes : Option (List (List ℕ)))
    → IsNow (in_short found) told
    → (IsTrue tells → Stays old new) → old.faults ≤ new.faults
    → Passes found [] 0 0 (store_seen tells old) (record (store_seen tells new) { found = told; bytes = bytes })
looked tells old new found told bytes now stays faults = record {
  stood_reached = omega arith;
  within = omega arith;
  later = later_if tells old new (λ t. grows old new (AsBefore old) (stays t).run);
  earlier = earlier_crash tells old new (AsBefore old) (λ t. (stays t).run);
  since = λ k o low high crash.
      let c = crash_since tells old new (AsBefore old) (λ t. (stays t).run) k o low crash in
      inl (crash_now tells old o c.0 (subst (MayOpenAs (now_of old.files)) (sym c.1.2) c.1.1));
  now = now;
  faults = faults;
}

-- The same of the disks as they are then: what opening would find is what it would have found.
pub looked_as : (tells : Bool) (old new : Devices) (found : Found)
    → (IsTrue tells → found_in (seen_of old.files) ≡ found)
    → (IsTrue tells → Stays old new) → old.faults ≤ new.faults
    → Passes found [] 0 0 (store_seen tells old) (store_seen tells new)
looked_as tells old new found is stays faults =
    looked tells old new found (store_seen tells new).found (store_seen tells new).bytes
    (now_if tells (found_in (seen_of new.files)) (in_short found) (λ t. ap in_short ((stays t).found ∙ is t)))
    stays faults

-- and each step needs what it needed
pub keeps_as : (tells : Bool) (old new : Devices) (found : Found)
    → (IsTrue tells → found_in (seen_of old.files) ≡ found)
    → (IsTrue tells → Stays old new) → old.faults ≤ new.faults
    → Keeps found (store_seen tells old) (store_seen tells new)
keeps_as tells old new found is stays faults = record {
  passes = looked_as tells old new found is stays faults;
  need = need_if tells (found_in (seen_of new.files)) found (λ t. (stays t).found ∙ is t);
}

-- the bytes are those that were there
pub untouched : (tells : Bool) (old new : Devices) → (IsTrue tells → OnlyLooks old new)
    → IsUntouched (store_seen tells old) (store_seen tells new)
untouched true old new looks = ap (λ (files : Trio (List ℕ)). Some (bytes_of files)) (looks refl).seen
untouched false old new looks = refl

pub finds : (tells : Bool) (old new : Devices) (found : Found) → (IsTrue tells → found_in (seen_of old.files) ≡ found)
    → (IsTrue tells → OnlyLooks old new) → old.faults ≤ new.faults
    → Finds found (store_seen tells old) (store_seen tells new)
finds tells old new found is looks faults = record {
  told = told_if tells (found_in (seen_of old.files)) found is;
  keeps = keeps_as tells old new found is (λ t. only_looked old new (looks t)) faults;
  untouched = untouched tells old new looks;
}

pub finds_some : (tells : Bool) (old new : Devices) → (IsTrue tells → Stays old new) → old.faults ≤ new.faults
    → FindsSome (store_seen tells old) (store_seen tells new)
finds_some tells old new stays faults =
    let found = found_in (seen_of old.files) in
    record {
      found = found;
      told = told_if tells found found (λ t. refl);
      keeps = keeps_as tells old new found (λ t. refl) stays faults;
    }

-- nothing was called
pub no_call : (d : Devices) → Stays d d
no_call d = only_looked d d (record {
  seen = refl;
  leaves = begins d (AreCrashImages (now_of d.files)) (λ images i. i);
  settled = λ name before. before;
})
