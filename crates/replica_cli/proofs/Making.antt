-- A store that was made, or on the way to it: what stands is what stood, or the empty store.
use Rattle.std.specs.Prelude.{IsTrue}
use Rattle.std.proofs.Common.{◌≡◌, ◌≢◌, ◌⊎◌, ⊎_elim, inl, inr, ℕ, ◌≤◌, Bool, true, false, if◌then◌else◌, List, [], ◌∷◌}
use Rattle.std.proofs.Common.{take, Option, Some, None, Err, refl, sym, ◌∙◌, ap, subst, arith}
use Rattle.conflicts.specs.State.{Text}
use Rattle.disk_model.specs.Device.{Device}
use Rattle.disks.specs.declared.fault.MakeFault.{MakeFault}
use Rattle.disks.specs.declared.fault.MakeFault.TheVariants as init
use Rattle.disks.specs.declared.name.DiskName.TheVariants.{Root}
use Rattle.disks.specs.declared.three.Disks.{Disks}
use Rattle.disks.specs.declared.trio.Trio.{Trio}
use Rattle.disks.specs.Disks.{disks_known}
use Rattle.disks.specs.Joint.{Devices, now_of, seen_of}
use Rattle.journal.specs.Image.{Head}
use Rattle.replica_core.specs.Replica.{Blank as LeftBlank, Found as Left, Stands as LeftStands, Stored, stored_in}
use Rattle.replica_volume.specs.Making.{IsEmptyAt, LeavesAsBeforeOrNew, MakesVolume}
use Rattle.replica_volume.specs.Settled.{leaves_its_state}
use Rattle.replica_volume.specs.Store.{MayOpenAs, opens_as, stored_at}
use Rattle.replica_volume.specs.Volume.{IsOpenVolume, devices, volume_known}
use Rattle.replica_volume.specs.declared.replica.Volume.{Volume}
use Rattle.store_commands.specs.Changes.{Change, IsAfterSome, IsNow, Made, Passes, after_all}
use Rattle.store_commands.specs.Found.{Blank, Damaged, Found, IsUntouched, Stands, in_short}
use Rattle.store_commands.specs.Store.{BreaksOff, Exists, FindsSome, MadeAnew, Makes, is_blank, making}
use Rattle.std.specs.Result.{IsErrOf}
use Rattle.u1_base.specs.Causes.{HasCauseOf, Rose}
use Rattle.vector_rev.specs.Counts.{Uid}
use Rattle.volume.specs.Crashes.{IsBlankOrEmpty, OnlyLooks}
use Rattle.volume.specs.Store.{FoundImages, found_of}
use Rattle.replica_cli.specs.Store.{found_in, images_as, store_seen}
use Rattle.replica_cli.proofs.Files.{blank_in, now_if, some_in, stands_as, told_if}
use Rattle.replica_cli.proofs.Looking.{crash_now, crash_since, earlier_crash, finds, finds_some, grows, later_if}
use Rattle.replica_cli.proofs.Looking.{looked_as, no_call, only_looked}

-- of what may be found after a crash, that which was there, or the empty store
abbrev pub AsBeforeOrNew : Head → Devices → Trio (List ℕ) → Type 0
AsBeforeOrNew head old files = MayOpenAs (now_of old.files) (opens_as files)
    ⊎ (opens_as files ≡ LeftStands (stored_at head []))

-- the one change of making a store
abbrev pub makes : Head → List Change
makes head = Made head.name head.uid head.limit ∷ []

since_making : (tells : Bool) (head : Head) (old : Devices) (o : Left Stored)
    → IsTrue tells × ((files : Trio (List ℕ)) × AsBeforeOrNew head old files × (o ≡ opens_as files))
    → (store_seen tells old).crash (store_seen tells old).moment o ⊎ IsAfterSome LeftBlank (makes head) 1 o
since_making tells head old o c =
    ⊎_elim
    (λ before. inl (crash_now tells old o c.0 (subst (MayOpenAs (now_of old.files)) (sym c.1.2) before)))
    (λ new. inr (1, omega arith, c.1.2 ∙ new))
    c.1.1

-- of the one change none or it stands, and a crash may leave either
pub made_so_far : (tells : Bool) (head : Head) (old new : Devices) (stood : ℕ) (told : Option Found) → stood ≤ 1
    → IsNow (after_all LeftBlank (take stood (makes head))) told
    → (IsTrue tells → LeavesAsBeforeOrNew head old new) → old.faults ≤ new.faults
    → Passes Blank (makes head) stood 1 (store_seen tells old) (record (store_seen tells new) { found = told })
made_so_far tells head old new stood told few now run faults = record {
  stood_reached = few;
  within = omega arith;
  later = later_if tells old new (λ t. grows old new (AsBeforeOrNew head old) (run t));
  earlier = earlier_crash tells old new (AsBeforeOrNew head old) run;
  since = λ k o low high crash. since_making tells head old o
      (crash_since tells old new (AsBeforeOrNew head old) run k o low crash);
  now = now;
  faults = faults;
}

-- ---- what the reads find then

-- no store, or the empty one
abbrev pub EmptyNow : Head → ℕ → Found → Type 0
EmptyNow head stood found = in_short found ≡ after_all LeftBlank (take stood (makes head))

pub blank_or_empty : (head : Head) (f : FoundImages) → IsBlankOrEmpty head f
    → (stood : ℕ) × (stood ≤ 1) × EmptyNow head stood (images_as f)
blank_or_empty head f b =
    ⊎_elim
    (λ none. (0, omega arith, subst (λ (g : FoundImages). EmptyNow head 0 (images_as g)) (sym none) refl))
    (λ empty. (
      1,
      omega arith,
      ⊎_elim
          (λ left. subst (λ (g : FoundImages). EmptyNow head 1 (images_as g)) (sym left) refl)
          (λ right. subst (λ (g : FoundImages). EmptyNow head 1 (images_as g)) (sym right) refl)
          empty,
    ))
    b

-- what is told of it
now_told : (tells : Bool) (head : Head) (f : FoundImages) → (IsTrue tells → IsBlankOrEmpty head f)
    → (stood : ℕ) × (stood ≤ 1) × IsNow (after_all LeftBlank (take stood (makes head)))
    (if tells then Some (images_as f) else None)
now_told true head f h = blank_or_empty head f (h refl)
now_told false head f h = (0, omega arith, tt)

-- ---- a disk failed

empty_or_not : (root : List ℕ) → (root ≡ []) ⊎ (root ≢ [])
empty_or_not [] = inl refl
empty_or_not (byte ∷ rest) = inr (λ e. absurd (cc e))

making_nothing : (name : Text) (uid : Uid) (limit : ℕ) (f : Found) → is_blank f ≡ false → making name uid limit f ≡ []
making_nothing name uid limit Blank e = absurd (cc e)
making_nothing name uid limit (Damaged disk place) e = refl
making_nothing name uid limit (Stands x) e = refl

over_blank : (tells : Bool) (head : Head) (old new : Devices) → old.files.root.seen ≡ []
    → (IsTrue tells → LeavesAsBeforeOrNew head old new)
    → (IsTrue tells → old.files.root.seen ≡ [] → IsBlankOrEmpty head (found_of (seen_of new.files)))
    → old.faults ≤ new.faults → Rose old.faults new.faults
    → BreaksOff head.name head.uid head.limit (store_seen tells old) (store_seen tells new)
over_blank tells head old new none run left_now later rose =
    let s = now_told tells head (found_of (seen_of new.files)) (λ t. left_now t none) in
    record {
      found = Blank;
      told = told_if tells (found_in (seen_of old.files)) Blank (λ t. blank_in (seen_of old.files) none);
      stood = s.0;
      reached = 1;
      passes = made_so_far tells head old new s.0 (store_seen tells new).found s.1 s.2 run later;
      rose = rose;
    }

over_some : (tells : Bool) (head : Head) (old new : Devices) → old.files.root.seen ≢ []
    → (IsTrue tells → OnlyLooks old new)
    → old.faults ≤ new.faults → Rose old.faults new.faults
    → BreaksOff head.name head.uid head.limit (store_seen tells old) (store_seen tells new)
over_some tells head old new some looks later rose =
    let found = found_in (seen_of old.files) in
    record {
      found = found;
      told = told_if tells found found (λ t. refl);
      stood = 0;
      reached = 0;
      passes = subst (λ (changes : List Change). Passes found changes 0 0 (store_seen tells old) (store_seen tells new))
          (sym (making_nothing head.name head.uid head.limit found (some_in (seen_of old.files) some)))
          (looked_as tells old new found (λ t. refl) (λ t. only_looked old new (looks t)) later);
      rose = rose;
    }

pub breaks_off : (tells : Bool) (head : Head) (old new : Devices)
    → (IsTrue tells → LeavesAsBeforeOrNew head old new)
    → (IsTrue tells → old.files.root.seen ≢ [] → OnlyLooks old new)
    → (IsTrue tells → old.files.root.seen ≡ [] → IsBlankOrEmpty head (found_of (seen_of new.files)))
    → old.faults ≤ new.faults → Rose old.faults new.faults
    → BreaksOff head.name head.uid head.limit (store_seen tells old) (store_seen tells new)
breaks_off tells head old new run looks left_now later rose =
    ⊎_elim
    (λ none. over_blank tells head old new none run left_now later rose)
    (λ some. over_some tells head old new some (λ t. looks t some) later rose)
    (empty_or_not old.files.root.seen)

-- ---- there is a store already

-- where nothing is told it may be a damaged one
abbrev shown : Bool → Found → Found
shown b f = if b then f else Damaged Root 1

shown_is : (b : Bool) (f : Found) → IsTrue b → f ≡ shown b f
shown_is true f t = refl
shown_is false f t = absurd (cc t)

shown_some : (b : Bool) (f : Found) → (IsTrue b → is_blank f ≡ false) → is_blank (shown b f) ≡ false
shown_some true f h = h refl
shown_some false f h = refl

pub exists : (tells : Bool) (old new : Devices) → (IsTrue tells → old.files.root.seen ≢ [])
    → (IsTrue tells → OnlyLooks old new) → old.faults ≤ new.faults
    → Exists (store_seen tells old) (store_seen tells new)
exists tells old new some looks later =
    let f = found_in (seen_of old.files) in
    let x = finds tells old new (shown tells f) (shown_is tells f) looks later in
    record {
      found = shown tells f;
      told = x.told;
      keeps = x.keeps;
      there =
          shown_some tells f (λ t. some_in (seen_of old.files) (some t));
      untouched = x.untouched;
    }

-- ---- it was made

pub made_anew : {D : Type 0} (tells : Bool) (known : D → Device) (head : Head) (old : Devices) (v : Volume D)
    → IsOpenVolume tells known v → IsEmptyAt head v → (IsTrue tells → old.files.root.seen ≡ [])
    → (IsTrue tells → LeavesAsBeforeOrNew head old (devices known v)) → old.faults ≤ (devices known v).faults
    → MadeAnew head.name head.uid head.limit (store_seen tells old) (store_seen tells (devices known v))
made_anew tells known head old v is empty none run later =
    let new = devices known v in
    let stored : LeftStands (stored_in (volume_known tells known v)) ≡ LeftStands (stored_at head []) =
    rw (empty.leaves, empty.limit) refl in
    record {
      told = told_if tells (found_in (seen_of old.files)) Blank (λ t. blank_in (seen_of old.files) (none t));
      passes = made_so_far tells head old new 1 (store_seen tells new).found (omega arith)
          (now_if tells (found_in (seen_of new.files)) (LeftStands (stored_at head []))
          (λ t. ap in_short (stands_as tells known v is.nothing (is.keeps t)) ∙ stored)) run later;
      settled = λ o crash. leaves_its_state tells known v o is crash ∙ stored;
    }

-- ---- a store that was not made, by its fault

pub fails_to_make : {D : Type 0} (tells : Bool)
    (known : D → Device) (head : Head) (before after : Disks D) (root : List ℕ) (why : MakeFault)
    → (IsTrue tells → root ≡ (disks_known known before).files.root.seen)
    → MakesVolume {D = D} head root (Err (after, why))
    → (IsTrue tells → LeavesAsBeforeOrNew head (disks_known known before) (disks_known known after))
    → (IsTrue tells → (disks_known known before).files.root.seen ≢ []
    → OnlyLooks (disks_known known before) (disks_known known after))
    → (IsTrue tells → (disks_known known before).files.root.seen ≡ []
    → IsBlankOrEmpty head (found_of (seen_of (disks_known known after).files)))
    → (IsErrOf {T = Unit {0}} (Err why) init.Memory → after ≡ before)
    → HasCauseOf {T = Unit {0}} init.Disk (disks_known known before).faults (disks_known known after).faults (Err why)
    → Makes head.name head.uid head.limit (store_seen tells (disks_known known before))
    (store_seen tells (disks_known known after)) (Err why)
fails_to_make tells known head before after root init.Exists told some run looks left_now untouched cause =
    let is : IsTrue tells → (disks_known known before).files.root.seen ≢ [] = λ t e. some (told t ∙ e) in
    exists tells (disks_known known before) (disks_known known after) is (λ t. looks t (is t)) cause.later
fails_to_make tells known head before after root init.Disk told m run looks left_now untouched cause =
    breaks_off tells head (disks_known known before) (disks_known known after) run looks left_now cause.later
    (cause.failed refl)
fails_to_make tells known head before after root init.Memory told m run looks left_now untouched cause =
    subst (λ (d : Disks _).
    FindsSome (store_seen tells (disks_known known before)) (store_seen tells (disks_known known d))
    × IsUntouched (store_seen tells (disks_known known before)) (store_seen tells (disks_known known d)))
    (sym (untouched refl)) (
      finds_some tells (disks_known known before) (disks_known known before) (λ t. no_call (disks_known known before))
          (omega arith),
      refl,
    )
