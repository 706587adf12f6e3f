-- A store was made, or not.
use Rattle.std.specs.Prelude.{IsTrue}
use Rattle.std.proofs.Common.{◌≡◌, ◌⊎◌, ⊎_elim, inl, inr, ℕ, Bool, true, List, [], ◌∷◌, Ok, refl, sym, ◌∙◌, ap, subst}
use Rattle.disk_model.specs.Device.{Device}
use Rattle.disks.specs.declared.name.DiskName.TheVariants.{Left}
use Rattle.disks.specs.declared.trio.Trio.{Trio}
use Rattle.disks.specs.Joint.{AreCrashImages, Devices, now_of, seen_of}
use Rattle.disks.proofs.Runs.{begins, weaker}
use Rattle.journal.specs.Image.{Head}
use Rattle.replica_core.specs.Replica.Found.{Stands}
use Rattle.replica_state.specs.Held.{meaning}
use Rattle.volume.specs.Store.{FoundImages, IsStore, found_of}
use Rattle.volume.specs.Crashes.{IsBlankOrEmpty, IsEmptyStore, LeavesOldOrEmpty, MayFind, OnlyLooks}
use Rattle.volume.proofs.Finding.{found_blank}
use Rattle.replica_volume.specs.Making.{LeavesAsBeforeOrNew}
use Rattle.replica_volume.specs.Steps.{state_at}
use Rattle.replica_volume.specs.Store.{MayOpenAs, opened_as, opens_as, stored_at, with_steps}
use Rattle.replica_volume.specs.Volume.{IsOpenVolume, devices}
use Rattle.replica_volume.specs.declared.replica.Volume.{Volume}

-- what is found of the images says what is found of the store
opens_found : (files : Trio (List ℕ)) (found : FoundImages) → found_of files ≡ found
    → opens_as files ≡ opened_as (with_steps found)
opens_found files found e = ap (λ (f : FoundImages). opened_as (with_steps f)) e

-- the empty store has the state of no steps, on either side
empty_opens : (head : Head) (files : Trio (List ℕ)) → IsEmptyStore head (found_of files)
    → opens_as files ≡ Stands (stored_at head [])
empty_opens head files empty = ⊎_elim (λ e. ap (λ (f : FoundImages). opened_as (with_steps f)) e)
    (λ e. ap (λ (f : FoundImages). opened_as (with_steps f)) e) empty

pub as_before_or_new : (head : Head) (old new : Devices) → LeavesOldOrEmpty head old new
    → LeavesAsBeforeOrNew head old new
as_before_or_new head old new run =
    weaker old new (λ files. MayFind (now_of old.files) (found_of files) ⊎ IsEmptyStore head (found_of files))
    (λ files. MayOpenAs (now_of old.files) (opens_as files) ⊎ (opens_as files ≡ Stands (stored_at head []))) run
    (λ files found. ⊎_elim
    (λ may. inl (may.0, may.1, ap (λ (f : FoundImages). opened_as (with_steps f)) may.2))
    (λ empty. inr (empty_opens head files empty))
    found)

pub nothing_made : (head : Head) (old : Devices) → LeavesAsBeforeOrNew head old old
nothing_made head old =
    begins old (λ files. MayOpenAs (now_of old.files) (opens_as files) ⊎ (opens_as files ≡ Stands (stored_at head [])))
    (λ files images. inl (files, images, refl))

pub made_volume : {D : Type 0} (tells : Bool) (known : D → Device) (head : Head) (v : Volume D)
    → (IsTrue tells → IsStore v.journal Left 2 head [] (devices known v).files) → v.side ≡ Left → v.open ≡ true
    → v.uids.uids ≡ head.uid ∷ [] → meaning v.state ≡ state_at head [] → v.staged ≡ [] → IsOpenVolume tells known v
made_volume tells known head v stands side ready uids state nothing = record {
  ready = ready;
  image = λ e. absurd (cc (sym side ∙ e));
  nothing = nothing;
  keeps = λ t. record {
    head = head;
    bodies = [];
    history = [];
    stands = subst (λ s. IsStore v.journal s 2 head [] (devices known v).files) (sym side) (stands t);
    says = ap (λ us. Ok (record { steps = []; uids = us })) (sym uids);
    leaves = state;
  };
}

-- where no disk was called
pub nothing_written : (old : Devices) → OnlyLooks old old
nothing_written old = record {
  seen = refl;
  leaves = begins old (AreCrashImages (now_of old.files)) (λ files images. images);
  settled = λ name before. before;
}

pub still_blank : (head : Head) (old : Devices) → old.files.root.seen ≡ []
    → IsBlankOrEmpty head (found_of (seen_of old.files))
still_blank head old e = inl (found_blank (seen_of old.files) e)
