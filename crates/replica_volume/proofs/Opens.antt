-- The image that the root names was read, and its steps were made.
use Rattle.std.specs.Prelude.{IsTrue}
use Rattle.std.proofs.Common.{◌≡◌, ◌≢◌, ℕ, Bool, List, [], Ok, Err, refl, sym, ◌∙◌, ap, subst}
use Rattle.conflicts.specs.State.{History}
use Rattle.disk_model.specs.Device.{Device}
use Rattle.disks.specs.declared.name.DiskName.{DiskName}
use Rattle.disks.specs.declared.name.DiskName.TheVariants.{Root}
use Rattle.disks.specs.declared.trio.Trio.{Trio}
use Rattle.disks.specs.declared.three.Disks.{Disks}
use Rattle.journal.specs.Journal.{Extent}
use Rattle.journal.specs.Stored.{StoredImage}
use Rattle.replica_state.specs.Held.{meaning}
use Rattle.replica_state.specs.Replayed.{replayed}
use Rattle.volume.specs.Opening.{OpensStore}
use Rattle.volume.specs.Store.{IsStore, found_of}
use Rattle.volume.specs.Store.FoundImages.{Stands as StandingImage}
use Rattle.disks.specs.declared.fault.OpenFault.{OpenFault}
use Rattle.disks.specs.declared.fault.OpenFault.TheVariants as fault
use Rattle.replica_volume.specs.Faults.{fault_placing}
use Rattle.replica_volume.specs.Opening.{IsFormer, IsOpenedFrom, OpensVolume}
use Rattle.replica_volume.specs.inner.Replaying.{AreMade, IsBadAt, ReplaysOn}
use Rattle.replica_volume.specs.inner.Placing.{SaysSteps, StandsWith}
use Rattle.replica_volume.specs.Steps.{steps_of}
use Rattle.replica_volume.specs.Store.{holds_steps, store_of, with_steps}
use Rattle.replica_volume.specs.Store.StoreFound.{Damaged, Holds}
use Rattle.replica_volume.specs.Volume.{IsOpenVolume, devices}
use Rattle.replica_volume.specs.declared.replaying.Made.{Made}
use Rattle.replica_volume.specs.declared.replica.Volume.{Volume}
use Rattle.replica_volume.specs.declared.placing.PlaceFault.{PlaceFault}
use Rattle.replica_volume.specs.declared.placing.PlaceFault.TheVariants as place
use Rattle.replica_volume.specs.declared.placing.Standing.{Standing}

-- no image was read: the fault is that of the files
pub no_image : {D : Type 0} (files : Trio (List ℕ)) (disks : Disks D) (why : OpenFault) → OpensStore files (Err why)
    → OpensVolume {D = D} files (Err (disks, why))
no_image files disks fault.Blank e = ap with_steps e
no_image files disks (fault.Damaged disk place) e = ap with_steps e
no_image files disks fault.Disk e = tt
no_image files disks fault.Memory e = tt

-- the store of the image that was read
found_with : (files : Trio (List ℕ)) (side : DiskName) (image : StoredImage)
    → found_of files ≡ StandingImage side image.format image.header image.bodies
    → store_of files ≡ holds_steps side image.format image.header (steps_of image.format image.header image.bodies)
found_with files side image e = ap with_steps e

-- one of its bodies has no reading
pub bad_body : (files : Trio (List ℕ)) (side disk : DiskName) (image : StoredImage) (place : ℕ)
    → found_of files ≡ StandingImage side image.format image.header image.bodies → disk ≡ side → IsBadAt image place
    → store_of files ≡ Damaged disk place
bad_body files side disk image place e same bad =
    found_with files side image e
    ∙ ap (holds_steps side image.format image.header) bad.bad
    ∙ ap (Damaged side) (sym bad.there)
    ∙ ap (λ (n : DiskName). Damaged n place) (sym same)

-- all of them say a history
holds : (files : Trio (List ℕ)) (side : DiskName) (image : StoredImage) (m : Made)
    → found_of files ≡ StandingImage side image.format image.header image.bodies → (i : AreMade image image.bodies m)
    → store_of files ≡ Holds side image.format image.header i.history
holds files side image m e i = found_with files side image e ∙ ap (holds_steps side image.format image.header) i.says

pub opened_from : {D : Type 0} (files : Trio (List ℕ)) (side : DiskName) (image : StoredImage) (m : Made)
    (v : Volume D)
    → found_of files ≡ StandingImage side image.format image.header image.bodies
    → AreMade image image.bodies m → meaning v.state ≡ replayed m.steps → v.journal.limit ≡ image.header.limit
    → IsOpenedFrom files v
opened_from files side image m v e i state limit = record {
  side = side;
  format = image.format;
  head = image.header;
  history = i.history;
  found = holds files side image m e i;
  leaves = state ∙ i.leaves;
  limit = limit;
}

-- the image has format 1 only where the store had it at the start
pub not_first : (files seen : Trio (List ℕ)) (side : DiskName) (image : StoredImage) (m : Made)
    → found_of files ≡ StandingImage side image.format image.header image.bodies → files ≡ seen
    → AreMade image image.bodies m
    → (IsFormer seen → ⊥) → image.format ≢ 1
not_first files seen side image m e same i never first =
    never (subst IsFormer same (record {
      side = side;
      head = image.header;
      history = i.history;
      found = holds files side image m e i ∙ ap (λ (n : ℕ). Holds side n image.header i.history) first;
    }))

-- the bodies say the steps that were made
pub says_made : (image : StoredImage) (m : Made) → (i : AreMade image image.bodies m)
    → SaysSteps image i.history m.uids.uids
says_made image m i = i.says

-- the volume of the image that stands in format 2 is open
pub opened_volume : {D : Type 0} (tells : Bool) (known : D → Device) (image : StoredImage) (m : Made)
    (s : Standing) (v : Volume D)
    → (IsTrue tells → (h : History) → SaysSteps image h m.uids.uids
    → StandsWith image.header h s (devices known v).files)
    → s.side ≢ Root → AreMade image image.bodies m
    → v.side ≡ s.side → meaning v.state ≡ replayed m.steps → v.uids ≡ s.uids → v.journal ≡ s.journal → IsTrue v.open
    → v.staged ≡ []
    → IsOpenVolume tells known v
opened_volume tells known image m s v stands root i side state uids journal ready nothing = record {
  ready = ready;
  image = λ e. root (sym side ∙ e);
  nothing = nothing;
  keeps = λ t.
      let is = stands t i.history i.says in
      record {
        head = image.header;
        bodies = is.bodies;
        history = i.history;
        stands = subst (λ (d : DiskName). IsStore v.journal d 2 image.header is.bodies (devices known v).files)
            (sym side)
            (subst (λ (j : Extent). IsStore j s.side 2 image.header is.bodies (devices known v).files)
            (sym journal) is.stands);
        says = is.says ∙ ap (λ u. Ok (record { steps = i.history; uids = u.uids })) (sym uids);
        leaves = state ∙ i.leaves;
      };
}

-- an image was not put in place
pub not_placed : {D : Type 0} (files : Trio (List ℕ)) (disks : Disks D) (why : PlaceFault)
    → OpensVolume {D = D} files (Err (disks, fault_placing why))
not_placed files disks place.Disk = tt
not_placed files disks place.Memory = tt

-- a failed disk is told only where it failed, and running out of memory where it happened
pub disk_placing : (why : PlaceFault) → fault_placing why ≡ fault.Disk → why ≡ place.Disk
disk_placing place.Disk e = refl
disk_placing place.Memory e = absurd (cc e)

pub memory_placing : (why : PlaceFault) → fault_placing why ≡ fault.Memory → why ≡ place.Memory
memory_placing place.Disk e = absurd (cc e)
memory_placing place.Memory e = refl

-- what going through the bodies found is what is found of the store
pub not_replayed : {D : Type 0} (files : Trio (List ℕ)) (disks : Disks D) (side : DiskName) (image : StoredImage)
    (why : OpenFault)
    → found_of files ≡ StandingImage side image.format image.header image.bodies → ReplaysOn side image (Err why)
    → OpensVolume {D = D} files (Err (disks, why))
not_replayed files disks side image fault.Blank e r = absurd r
not_replayed files disks side image (fault.Damaged disk place) e r = bad_body files side disk image place e r.0 r.1
not_replayed files disks side image fault.Disk e r = absurd r
not_replayed files disks side image fault.Memory e r = tt
