-- The steps of an image of format 1 are spelled in format 2.
use Rattle.std.specs.Prelude.{IfOk, IsOk}
use Rattle.std.proofs.Common.{◌≡◌, ◌≢◌, ◌⊎◌, ⊎_elim, inl, inr, ℕ, List, [], ◌∷◌, ◌++◌, Result, Ok, Err, refl, sym, ◌∙◌}
use Rattle.std.proofs.Common.{ap, subst}
use Rattle.std.proofs.lemmas.List.{append_assoc}
use Rattle.compaction.specs.Images.{IsOneMore, bodies_of}
use Rattle.compaction.specs.declared.spelling.Spelled.{Spelled}
use Rattle.compaction.proofs.Bodies.{nothing_spelled, one_spelled}
use Rattle.conflicts.specs.State.{History, Step, Text}
use Rattle.disk_model.specs.Device.{Device, File}
use Rattle.disks.specs.declared.name.DiskName.{DiskName}
use Rattle.disks.specs.declared.trio.Trio.{Trio}
use Rattle.disks.specs.declared.three.Disks.{Disks}
use Rattle.disks.specs.Disks.{disks_known}
use Rattle.disks.specs.Joint.{AreCrashImages, Devices, now_of, seen_of}
use Rattle.disks.proofs.Runs.{begins, goes_on, weaker}
use Rattle.journal.specs.Image.{Head, IsFormat}
use Rattle.journal.specs.Journal.{Extent}
use Rattle.journal.specs.Passing.{HasPassed}
use Rattle.journal.specs.Stored.{StoredImage}
use Rattle.record_codec.specs.Bodies.{first_step_in}
use Rattle.volume.specs.Crashes.{MayFind, OnlyLooks}
use Rattle.volume.specs.Store.{FoundImages, IsStore, found_of}
use Rattle.volume.specs.Store.FoundImages.{Blank as NoImages, Damaged as BrokenImage, Stands as StandingImage}
use Rattle.volume.proofs.Standing.{store_stands}
use Rattle.replica_volume.specs.Opening.{IsLeft, LeavesAsBefore, LeavesOldOrMoved}
use Rattle.replica_volume.specs.inner.Opening.{LeavesSameOrMoved}
use Rattle.record_fields.specs.Table.{Numbers}
use Rattle.replica_volume.specs.inner.Placing.{IsSpelled, LeavesOldOrSpelled, SaysSteps, StandsWith}
use Rattle.replica_volume.specs.Steps.{Chronicle, body_in, steps_in, steps_of, unnumbered}
use Rattle.replica_volume.specs.Store.{IsMoved, IsSameOrMoved, MayOpenAs, holds_steps, opened_as, opens_as, with_steps}
use Rattle.replica_volume.specs.declared.moving.Finished.{Finished}
use Rattle.replica_volume.specs.declared.placing.Standing.{Standing}
use Rattle.replica_volume.proofs.Read.{one_bad, one_said}
use Rattle.replica_volume.proofs.Places.{spelled_says}

-- ---- going through the bodies again

-- these first bodies of an image of format 1 say a history, which is spelled
pub record IsRespelled (image : StoredImage) (bodies : List (List ℕ)) (s : Spelled) : Type 0 where
  pub history : History
  pub says : steps_in 1 (image.header.uid ∷ []) bodies ≡ Ok (record { steps = history; uids = image.header.uid ∷ [] })
  pub spelled : IsSpelled image.header.uid history s

pub respelled_none : (image : StoredImage) (s : Spelled) → s.bodies ≡ [] → s.uids.uids ≡ image.header.uid ∷ []
    → IsRespelled image [] s
respelled_none image s none one = record {
  history = [];
  says = refl;
  spelled = nothing_spelled image.header.uid s.bodies s.uids.uids none one;
}

-- no body behind them is bad where all of them say a history
said_first : (r : Result Step ℕ) → ((place : ℕ) → r ≡ Err place → ⊥) → IsOk r
said_first (Ok x) never = refl
said_first (Err place) never = absurd (never place refl)

first_err : (body : List ℕ) (us : List Text) (place : ℕ) → first_step_in body ≡ Err place
    → body_in 1 us body ≡ Err place
first_err body us place e = ap unnumbered e

first_ok : (body : List ℕ) (us : List Text) (x : Step) → first_step_in body ≡ Ok x
    → body_in 1 us body ≡ Ok (record { step = x; added = [] })
first_ok body us x e = ap unnumbered e

pub not_bad : (image : StoredImage) (bodies : List (List ℕ)) (body : List ℕ) (next : ℕ) (s : Spelled) (h : History)
    (us : List Text) → image.format ≡ 1
    → SaysSteps image h us → HasPassed image (bodies ++ body ∷ []) next → IsRespelled image bodies s
    → IsOk (first_step_in body)
not_bad image bodies body next s h us format all passed is =
    said_first (first_step_in body) (λ place e.
    absurd (cc (
      all,
      ap (λ (n : ℕ). steps_of n image.header image.bodies) format
          ∙ ap (steps_of 1 image.header) (passed.split ∙ append_assoc bodies (body ∷ []) passed.rest)
          ∙ one_bad 1 (image.header.uid ∷ []) bodies passed.rest body
          (record { steps = is.history; uids = image.header.uid ∷ [] }) place is.says
          (first_err body (image.header.uid ∷ []) place e),
    )))

-- where all of them say a history, one body more is spelled
pub respelled_more : (image : StoredImage) (bodies : List (List ℕ)) (body : List ℕ) (old new : Spelled)
    (said : Result Step ℕ) → first_step_in body ≡ said → IsOk said → IsRespelled image bodies old
    → IfOk said (λ x. IsOneMore old.uids.uids x old.bodies new.bodies new.uids.uids)
    → IsRespelled image (bodies ++ body ∷ []) new
respelled_more image bodies body old new (Ok x) e ok is more = record {
  history = is.history ++ x ∷ [];
  says = one_said 1 (image.header.uid ∷ []) bodies body (record { steps = is.history; uids = image.header.uid ∷ [] })
      (record { step = x; added = [] })
      is.says (first_ok body (image.header.uid ∷ []) x e);
  spelled = one_spelled image.header.uid is.history x old.bodies new.bodies old.uids.uids new.uids.uids is.spelled more;
}
respelled_more image bodies body old new (Err place) e ok is more = absurd (cc ok)

pub respelled_all : (image : StoredImage) (bodies : List (List ℕ)) (s : Spelled) (h : History) (us : List Text)
    → image.format ≡ 1
    → image.bodies ≡ bodies → IsRespelled image bodies s → SaysSteps image h us → IsSpelled image.header.uid h s
respelled_all image bodies s h us format e is all =
    let same : Ok (record { steps = h; uids = us }) ≡ Ok (record { steps = is.history; uids = image.header.uid ∷ [] }) =
    sym all ∙ ap (λ (n : ℕ). steps_of n image.header image.bodies) format ∙ ap (steps_of 1 image.header) e ∙ is.says in
    let steps : record { steps = is.history; uids = image.header.uid ∷ [] } ≡ record { steps = h; uids = us } = cc same
    in
    subst (λ (l : History). IsSpelled image.header.uid l s) (ap (λ (c : Chronicle). c.steps) steps) is.spelled

-- ---- what stands then

second : (format : ℕ) → IsFormat format → format ≢ 1 → format ≡ 2
second format known other = ⊎_elim (λ e. absurd (other e)) (λ e. e) known

module _ (journal : Extent) (side : DiskName) (image : StoredImage) (h : History) (us : List Text)
    (says : SaysSteps image h us) where
  -- an image that does not have format 1 stands as it is
  pub stands_in_second : (uids : Numbers) (files : Trio File) → uids.uids ≡ us → image.format ≢ 1
      → IsStore journal side image.format image.header image.bodies files
      → StandsWith image.header h (record { side = side; journal = journal; uids = uids }) files
  stands_in_second uids files same other store =
      let format = second image.format store.image.reads.header.known other in
      record {
        bodies = image.bodies;
        stands = subst (λ (n : ℕ). IsStore journal side n image.header image.bodies files) format store;
        says = subst (λ (n : ℕ). steps_of n image.header image.bodies ≡ Ok (record { steps = h; uids = us })) format
            says ∙ ap (λ (l : List Text). Ok (record { steps = h; uids = l })) (sym same);
      }

  -- nothing was written
  pub stays_same : (now : Devices) → IsStore journal side image.format image.header image.bodies now.files
      → LeavesSameOrMoved now now
  stays_same now store =
      let is = store_stands journal side image.format image.header image.bodies now.files store in
      begins now (λ files. IsSameOrMoved (found_of (seen_of now.files)) (found_of files))
      (λ files images. inl (is.left files images ∙ sym is.read))

  -- the image was moved
  pub is_moved : (to : DiskName) (head : Head) (s : Spelled) (old new : Devices) → image.format ≡ 1 → to ≢ side
      → head ≡ image.header
      → IsStore journal side image.format image.header image.bodies old.files → IsSpelled image.header.uid h s
      → (IsSpelled head.uid h s → LeavesOldOrSpelled to head h old new) → LeavesSameOrMoved old new
  is_moved to head s old new format ne same store spelled run =
      let read = (store_stands journal side image.format image.header image.bodies old.files store).read in
      let moves = subst (λ (hd : Head). LeavesOldOrSpelled to hd h old new) same
      (run (subst (λ (hd : Head). IsSpelled hd.uid h s) (sym same) spelled)) in
      let found = λ (files : Trio (List ℕ)). found_of files
      ≡ StandingImage to 2 image.header (bodies_of (image.header.uid ∷ []) h) in
      weaker old new (λ files. (found_of files ≡ StandingImage side image.format image.header image.bodies)
      ⊎ found files)
      (λ files. IsSameOrMoved (found_of (seen_of old.files)) (found_of files))
      (moves journal side image.format image.header image.bodies (λ e. ne (sym e)) store)
      (λ files left. ⊎_elim
      (λ e. inl (e ∙ sym read))
      (λ e. inr (subst (λ (f : FoundImages). IsMoved f (found_of files)) (sym read) (
        format,
        record {
          history = h;
          uids = us;
          said = subst (λ (n : ℕ). steps_of n image.header image.bodies ≡ Ok (record { steps = h; uids = us }))
              format says;
          to = to;
          other = ne;
          found = e;
          says = spelled_says image.header.uid h s spelled;
        },
      )))
      left)

-- what holds of the image that stands holds of it beside the state
pub finished_with : {E : Type 0} (r : Result Finished E) (s t : Standing) (P : Standing → Type 0)
    → IfOk r (λ f. f.standing ≡ s) → s ≡ t → P t → IfOk r (λ f. P f.standing)
finished_with (Ok f) s t P same is p = subst P (sym (same ∙ is)) p
finished_with (Err e) s t P same is p = tt

pub moved_with : {E : Type 0} (image : StoredImage) (us : List Text) (files : Trio File) (r : Result Finished E)
    → IfOk r (λ f. (h : History) (vs : List Text) → SaysSteps image h vs → StandsWith image.header h f.standing files)
    → IfOk r (λ f. (h : History) → SaysSteps image h us → StandsWith image.header h f.standing files)
moved_with image us files (Ok f) stands = λ h says. stands h us says
moved_with image us files (Err e) stands = tt

-- the image that was moved stands
pub moved_stands : {E : Type 0} (image : StoredImage) (head : Head) (spelled : Spelled) (files : Trio File)
    (r : Result Standing E) → head ≡ image.header
    → ((h : History) (us : List Text) → SaysSteps image h us → IsSpelled image.header.uid h spelled)
    → IfOk r (λ s. (h : History) → IsSpelled head.uid h spelled → StandsWith head h s files)
    → IfOk r (λ s. (h : History) (us : List Text) → SaysSteps image h us → StandsWith image.header h s files)
moved_stands image head spelled files (Ok s) same is stands =
    λ h us says. subst (λ (hd : Head). StandsWith hd h s files) same
    (stands h (subst (λ (hd : Head). IsSpelled hd.uid h spelled) (sym same) (is h us says)))
moved_stands image head spelled files (Err e) same is stands = stands

-- the uid of the header is that of the image
pub spelled_at : (image : StoredImage) (head : Head) (h : History) (s : Spelled) → head ≡ image.header
    → IsSpelled image.header.uid h s → IsSpelled head.uid h s
spelled_at image head h s same is = subst (λ (hd : Head). IsSpelled hd.uid h s) (sym same) is

-- ---- opening, which looks first

-- what was moved opens as it did
pub opens_same : (old new : FoundImages) → IsMoved old new → opened_as (with_steps new) ≡ opened_as (with_steps old)
opens_same NoImages new m = absurd m
opens_same (BrokenImage disk place) new m = absurd m
opens_same (StandingImage side format head bodies) new m =
    let is = m.1 in
    ap (λ (f : FoundImages). opened_as (with_steps f)) is.found
    ∙ ap (λ (r : Result Chronicle ℕ). opened_as (holds_steps is.to 2 head r)) is.says
    ∙ sym (ap (λ (r : Result Chronicle ℕ). opened_as (holds_steps side format head r))
    (ap (λ (n : ℕ). steps_of n head bodies) m.0 ∙ is.said))

module _ (old mid new : Devices) (looks : OnlyLooks old mid) where
  -- the reads gave before what they gave when the store was opened
  since : (f : FoundImages) → IsSameOrMoved (found_of (seen_of mid.files)) f
      → IsSameOrMoved (found_of (seen_of old.files)) f
  since f is = subst (λ (files : Trio (List ℕ)). IsSameOrMoved (found_of files) f) looks.seen is

  pub opening_leaves : AreCrashImages (now_of old.files) (seen_of old.files) → LeavesSameOrMoved mid new
      → LeavesOldOrMoved old new
  opening_leaves reads run =
      goes_on old mid new (λ files. MayFind (now_of old.files) (found_of files)
      ⊎ IsMoved (found_of (seen_of old.files)) (found_of files))
      (weaker old mid (AreCrashImages (now_of old.files)) _ looks.leaves (λ files images. inl (files, images, refl)))
      (weaker mid new (λ files. IsSameOrMoved (found_of (seen_of mid.files)) (found_of files)) _ run (λ files is.
      ⊎_elim (λ e. inl (seen_of old.files, reads, e)) (λ m. inr m) (since (found_of files) is)))

  -- and what the reads give now
  pub opening_left : AreCrashImages (now_of new.files) (seen_of new.files) → LeavesSameOrMoved mid new → IsLeft old new
  opening_left reads run = since (found_of (seen_of new.files)) (run.here (seen_of new.files) reads)

-- nothing was written
pub looks_left : (old new : Devices) → OnlyLooks old new → IsLeft old new
looks_left old new looks = inl (ap found_of looks.seen)

pub looks_leave : (old new : Devices) → OnlyLooks old new → LeavesOldOrMoved old new
looks_leave old new looks =
    weaker old new (AreCrashImages (now_of old.files)) _ looks.leaves (λ files images. inl (files, images, refl))

-- a crash leaves what opens as it might have at the start
pub opens_as_before : (old new : Devices) → AreCrashImages (now_of old.files) (seen_of old.files)
    → LeavesOldOrMoved old new → LeavesAsBefore old new
opens_as_before old new reads run =
    weaker old new (λ files. MayFind (now_of old.files) (found_of files)
    ⊎ IsMoved (found_of (seen_of old.files)) (found_of files))
    (λ files. MayOpenAs (now_of old.files) (opens_as files)) run
    (λ files left. ⊎_elim
    (λ may. (may.0, may.1, ap (λ (f : FoundImages). opened_as (with_steps f)) may.2))
    (λ m. (seen_of old.files, reads, opens_same (found_of (seen_of old.files)) (found_of files) m))
    left)

-- disks that were not called
pub not_called : {D : Type 0} (known : D → Device) (old mid new : Disks D) → new ≡ mid
    → OnlyLooks (disks_known known old) (disks_known known mid)
    → OnlyLooks (disks_known known old) (disks_known known new)
not_called {D} known old mid new same looks =
    subst (λ (d : Disks D). OnlyLooks (disks_known known old) (disks_known known d)) (sym same) looks
