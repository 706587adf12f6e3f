-- An image that was spelled anew is put in place.
use Rattle.std.proofs.Common.{◌≡◌, ◌⊎◌, ⊎_elim, inl, inr, ℕ, List, [], ◌∷◌, ◌++◌, length, Result, Ok, refl, sym}
use Rattle.std.proofs.Common.{◌∙◌}
use Rattle.std.proofs.Common.{ap, subst}
use Rattle.compaction.specs.Images.{ReadBack, bodies_of, image_of, uids_after}
use Rattle.compaction.specs.declared.spelling.Spelled.{Spelled}
use Rattle.conflicts.specs.State.{History, Text}
use Rattle.disk_model.specs.Device.{File}
use Rattle.disks.specs.declared.name.DiskName.{DiskName}
use Rattle.disks.specs.declared.trio.Trio.{Trio}
use Rattle.disks.specs.Joint.{Devices}
use Rattle.disks.proofs.Runs.{begins, weaker}
use Rattle.journal.specs.Image.{Head, image as bytes_of}
use Rattle.journal.specs.Journal.{Extent}
use Rattle.journal.specs.Spelled.{Spelled as NewImage, Spells, extent_of}
use Rattle.record_codec.specs.Bodies.{Recorded, added_of, body_of}
use Rattle.volume.specs.Crashes.{LeavesOldOrNew}
use Rattle.volume.specs.Store.{IsStore, StandsSpelled, found_of}
use Rattle.volume.specs.Store.FoundImages.{Stands as StandingImage}
use Rattle.volume.proofs.Standing.{store_stands}
use Rattle.replica_volume.specs.inner.Placing.{IsSpelled, LeavesOldOrSpelled, StandsWith}
use Rattle.replica_volume.specs.Steps.{after_body, steps_in, with_step}
use Rattle.replica_volume.specs.declared.placing.Standing.{Standing}

-- what the bodies of steps say which are read as them
spelled_in : (us : List Text) (h : History) → ReadBack us h
    → steps_in 2 us (bodies_of us h) ≡ Ok (record { steps = h; uids = uids_after us h })
spelled_in us [] back = refl
spelled_in us (x ∷ later) back =
    ap (λ (r : Result Recorded ℕ). after_body (body_of us x) r (λ said. steps_in 2 (us ++ said.added)
    (bodies_of (us ++ added_of us x) later))) back.0
    ∙ ap (with_step (body_of us x) x) (spelled_in (us ++ added_of us x) later back.1)

pub spelled_says : (own : Text) (h : History) (s : Spelled) → IsSpelled own h s
    → steps_in 2 (own ∷ []) (bodies_of (own ∷ []) h) ≡ Ok (record { steps = h; uids = uids_after (own ∷ []) h })
spelled_says own h s is = spelled_in (own ∷ []) h is.reads

-- no disk was called
pub not_put : (head : Head) (h : History) (to : DiskName) (now : Devices) → LeavesOldOrSpelled to head h now now
not_put head h to now journal from format former rows ne store =
    begins now (λ files. (found_of files ≡ StandingImage from format former rows)
    ⊎ (found_of files ≡ StandingImage to 2 head (bodies_of (head.uid ∷ []) h)))
    (λ files images. inl ((store_stands journal from format former rows now.files store).left files images))

-- the image was put in place
module _ (head : Head) (h : History) (spelled : Spelled) (image : NewImage) (to : DiskName)
    (is : IsSpelled head.uid h spelled) (spells : Spells head spelled.bodies image) where
  pub put_stands : (s : Standing) (files : Trio File) → s.side ≡ to → s.uids ≡ spelled.uids
      → StandsSpelled image s.journal to files → StandsWith head h s files
  put_stands s files side uids stands = record {
    bodies = spelled.bodies;
    stands = subst (λ (d : DiskName). IsStore s.journal d 2 head spelled.bodies files) (sym side)
        (stands head spelled.bodies spells);
    says = ap (steps_in 2 (head.uid ∷ [])) is.bodies_are
        ∙ spelled_says head.uid h spelled is
        ∙ ap (λ (us : List Text). Ok (record { steps = h; uids = us })) (sym is.uids_are)
        ∙ ap (λ u. Ok (record { steps = h; uids = u.uids })) (sym uids);
  }

  -- its journal has the length of the image
  pub put_length : (journal : Extent) → journal ≡ extent_of image → journal.length ≡ length (image_of head h)
  put_length journal same =
      ap (λ (j : Extent). j.length) same
      ∙ ap length spells.bytes
      ∙ ap (λ (l : List (List ℕ)). length (bytes_of 2 head l)) is.bodies_are

  pub put_leaves : (old new : Devices) → LeavesOldOrNew to image old new → LeavesOldOrSpelled to head h old new
  put_leaves old new run journal from format former rows ne store =
      weaker old new (λ files. (found_of files ≡ StandingImage from format former rows)
      ⊎ (found_of files ≡ StandingImage to 2 head spelled.bodies))
      (λ files. (found_of files ≡ StandingImage from format former rows)
      ⊎ (found_of files ≡ StandingImage to 2 head (bodies_of (head.uid ∷ []) h)))
      (run head spelled.bodies spells journal from format former rows ne store)
      (λ files left. ⊎_elim (λ e. inl e) (λ e. inr (e ∙ ap (StandingImage to 2 head) is.bodies_are)) left)
