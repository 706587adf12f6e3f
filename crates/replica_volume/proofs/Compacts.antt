-- The image of a volume is written anew with what a compaction leaves.
use Rattle.std.specs.Prelude.{map, min}
use Rattle.std.specs.List.{flat_map}
use Rattle.std.proofs.Common.{◌≡◌, ◌≢◌, ⊎_elim, inl, inr, ℕ, ◌+◌, ◌-◌, ◌^◌, ◌≤◌, Bool, List, [], ◌∷◌, ◌++◌, length}
use Rattle.std.proofs.Common.{Result, Ok, Err}
use Rattle.std.proofs.Common.{refl, sym, ◌∙◌, ap, subst, arith, length-append}
use Rattle.std.proofs.lemmas.List.{append-nil, append_assoc}
use Rattle.conflicts.specs.State.{History, State, Step, Text}
use Rattle.compaction.specs.Compaction.{compacted, compaction, left, nothing_later, trimmed}
use Rattle.compaction.specs.Images.{bodies_of, image_of, uids_after}
use Rattle.compaction.specs.declared.spelling.Spelled.{Spelled}
use Rattle.compaction.proofs.Again.{same_compacted, state_of-compaction}
use Rattle.compaction.proofs.Bodies.{bodies_of-push, uids_after-push}
use Rattle.compaction.proofs.Repeated.{compacted-trimmed}
use Rattle.compaction.proofs.Sizes.{image_shorter}
use Rattle.disk_model.specs.Device.{Device}
use Rattle.disks.specs.declared.name.DiskName.{DiskName}
use Rattle.disks.specs.declared.name.DiskName.TheVariants.{Root, Left, Right}
use Rattle.disks.specs.declared.trio.Trio.{Trio}
use Rattle.disks.specs.Joint.{AreCrashImages, Devices, now_of, seen_of}
use Rattle.disks.specs.Moments.{LeavesTogether}
use Rattle.disks.proofs.Runs.{goes_on, weaker}
use Rattle.journal.specs.Image.{Head, entry, up_to_gate}
use Rattle.journal.specs.Journal.{Extent}
use Rattle.journal.specs.Passing.{HasPassed}
use Rattle.journal.specs.Stored.{StoredImage}
use Rattle.journal.proofs.Entries.{length-entry, up_to_gate-push}
use Rattle.record_codec.specs.Bodies.{added_of, body_of}
use Rattle.record_codec.specs.declared.decoding.RecordFault.{RecordFault}
use Rattle.record_codec.specs.declared.decoding.RecordFault.TheVariants.{Bad, Memory}
use Rattle.replica_core.specs.Replica.Found.{Stands}
use Rattle.replica_state.specs.Held.{meaning}
use Rattle.replica_state.specs.Steps.{step_of}
use Rattle.replica_state.specs.declared.step.Step.{Step as Held}
use Rattle.volume.specs.Crashes.{OnlyLooks}
use Rattle.volume.specs.Opening.{OpensStore}
use Rattle.disks.specs.declared.fault.OpenFault.{OpenFault}
use Rattle.disks.specs.declared.fault.OpenFault.TheVariants as store
use Rattle.volume.specs.Store.{IsStore, found_of}
use Rattle.volume.specs.Store.FoundImages.{Stands as StandingImage}
use Rattle.volume.proofs.Opens.{still_stands}
use Rattle.volume.proofs.Standing.{store_stands}
use Rattle.replica_volume.specs.Compacting.{Compacts, HoldOldOrCompacted, IsCompacted}
use Rattle.replica_volume.specs.inner.Compacting.{AreKept, AreKeptSoFar, AreThose}
use Rattle.replica_volume.specs.inner.Compacting.{IsLeftAlone, IsOneKept, IsWrittenAnew, KeepsAll, KeepsOne, KeepsSteps}
use Rattle.replica_volume.specs.Compacting.{LeavesOldOrCompacted, LeavesStored}
use Rattle.replica_volume.specs.Compacting.{other_side, sizes_of}
use Rattle.replica_volume.specs.inner.Compacting.{WritesAnew}
use Rattle.disks.specs.Faults.{fault_reading}
use Rattle.replica_volume.specs.Faults.{fault_compacting}
use Rattle.replica_volume.specs.inner.Placing.{IsSpelled, LeavesOldOrSpelled, StandsWith}
use Rattle.replica_volume.specs.inner.Replaying.{DecodesAt, IsBadAt}
use Rattle.replica_volume.specs.Settled.{stored_is}
use Rattle.replica_volume.specs.Steps.{Chronicle, body_in, state_at, steps_of}
use Rattle.replica_volume.specs.Store.{holds_steps, opened_as, opens_as, store_of, with_steps}
use Rattle.replica_volume.specs.Store.StoreFound.{Holds}
use Rattle.replica_volume.specs.Volume.{KeepsHistory, devices, length_with, volume_known}
use Rattle.disks.specs.declared.fault.CompactFault.TheVariants as anew
use Rattle.disks.specs.declared.fault.Sizes.{Sizes}
use Rattle.replica_volume.specs.declared.compacting.KeptSteps.{KeptSteps}
use Rattle.replica_volume.specs.declared.placing.PlaceFault.{PlaceFault}
use Rattle.replica_volume.specs.declared.placing.PlaceFault.TheVariants as place
use Rattle.replica_volume.specs.declared.placing.Standing.{Standing}
use Rattle.replica_volume.specs.declared.replica.Volume.{Volume}
use Rattle.replica_volume.proofs.Places.{spelled_says}
use Rattle.replica_volume.proofs.Read.{bad_in, one_said}

-- ---- reading

-- no body yet
pub kept_none : (s : State) (image : StoredImage) (k : KeptSteps) → k.steps ≡ [] → k.uids.uids ≡ image.header.uid ∷ []
    → AreKeptSoFar s image [] k
kept_none s image k steps uids = record {
  history = [];
  says = ap (λ (us : List Text). Ok (record { steps = []; uids = us })) (sym uids);
  kept = ap (map step_of) steps;
  spelled = λ other. record { bodies_are = refl; uids_are = uids };
}

flat_map-push : {X A : Type 0} (f : X → List A) (xs : List X) (x : X)
    → flat_map f (xs ++ x ∷ []) ≡ flat_map f xs ++ f x
flat_map-push f [] x = append-nil (f x)
flat_map-push {X} {A} f (y ∷ xs) x =
    ap (λ (r : List A). f y ++ r) (flat_map-push f xs x) ∙ sym (append_assoc (f y) (flat_map f xs) (f x))

-- one more of those bodies
those_more : (own : Text) (h : History) (x : Step) (bodies : List (List ℕ)) (body : List ℕ) (uids added : List Text)
    → AreThose own h bodies uids
    → body ≡ body_of uids x → added ≡ added_of uids x → AreThose own (h ++ x ∷ []) (bodies ++ body ∷ []) (uids ++ added)
those_more own h x bodies body uids added are spelled names = record {
  bodies_are = ap (λ (b : List ℕ). bodies ++ b ∷ []) spelled
      ∙ (λ i. are.bodies_are i ++ body_of (are.uids_are i) x ∷ [])
      ∙ sym (bodies_of-push (own ∷ []) h x);
  uids_are = ap (λ (us : List Text). uids ++ us) names
      ∙ ap (λ (us : List Text). us ++ added_of us x) are.uids_are
      ∙ sym (uids_after-push (own ∷ []) h x);
}

-- one body more
pub kept_more : (s : State) (image : StoredImage) (bodies : List (List ℕ)) (body : List ℕ) (old new : KeptSteps)
    (format : ℕ) → AreKeptSoFar s image bodies old → format ≡ image.format → IsOneKept s format body old new
    → AreKeptSoFar s image (bodies ++ body ∷ []) new
kept_more s image bodies body old new format k same is = record {
  history = k.history ++ is.said.step ∷ [];
  says = one_said image.format (image.header.uid ∷ []) bodies body
      (record { steps = k.history; uids = old.uids.uids }) is.said k.says
      (ap (λ (n : ℕ). body_in n old.uids.uids body) (sym same) ∙ is.reads)
      ∙ ap (λ (us : List Text). Ok (record { steps = k.history ++ is.said.step ∷ []; uids = us })) (sym is.uids);
  kept = is.steps
      ∙ ap (λ (l : History). l ++ left s nothing_later is.said.step) k.kept
      ∙ sym (flat_map-push (left s nothing_later) k.history is.said.step);
  spelled = λ other.
      let says = is.spelled (λ e. other (sym same ∙ e)) in
      subst (λ (us : List Text). AreThose image.header.uid (k.history ++ is.said.step ∷ []) (bodies ++ body ∷ []) us)
      (sym is.uids)
      (those_more image.header.uid k.history is.said.step bodies body old.uids.uids is.said.added (k.spelled other)
      says.spelled says.added);
}

-- all bodies
pub kept_all : (s : State) (image : StoredImage) (bodies : List (List ℕ)) (k : KeptSteps) → image.bodies ≡ bodies
    → AreKeptSoFar s image bodies k → AreKept s image k.steps
kept_all s image bodies k e is =
    let all = subst (λ (l : List (List ℕ)). AreKeptSoFar s image l k) (sym e) is in
    record { history = all.history; uids = k.uids.uids; says = all.says; kept = all.kept; spelled = all.spelled }

-- the next body has no reading, or memory ran out
pub kept_err : (s : State) (image : StoredImage) (bodies : List (List ℕ)) (body : List ℕ) (old new : KeptSteps)
    (place next start format : ℕ) (why : RecordFault)
    → HasPassed image bodies place → HasPassed image (bodies ++ body ∷ []) next → AreKeptSoFar s image bodies old
    → format ≡ image.format
    → start ≡ place + 5 → KeepsOne s format start body old new (Err why) → KeepsAll s image new (Err why)
kept_err s image bodies body old new place next start format (Bad here) before behind k f at said =
    bad_in image bodies body place next said.0 here (record { steps = k.history; uids = old.uids.uids })
    before.there behind k.says
    (ap (λ (n : ℕ). body_in n old.uids.uids body) (sym f) ∙ said.1) (said.2 ∙ ap (λ (m : ℕ). m + said.0) at)
kept_err s image bodies body old new place next start format Memory before behind k f at said = tt

-- one body has no reading, or memory ran out
pub one_err : (s : State) (format start : ℕ) (body : List ℕ) (old new : KeptSteps) (why : RecordFault)
    → DecodesAt start (body_in format old.uids.uids body) (Err why) → KeepsOne s format start body old new (Err why)
one_err s format start body old new (Bad here) said = said
one_err s format start body old new Memory said = tt

-- what all bodies leave is what the image says
pub all_err : (s : State) (image : StoredImage) (k : KeptSteps) (why : RecordFault) → KeepsAll s image k (Err why)
    → KeepsSteps s image (Err why)
all_err s image k (Bad place) is = is
all_err s image k Memory is = tt

-- ---- the sides

pub apart : (side to : DiskName) → to ≢ side → side ≢ to
apart side to ne e = ne (sym e)

-- there is one other side
pub is_other : (side to : DiskName) → side ≢ Root → to ≢ Root → to ≢ side → to ≡ other_side side
is_other Root to root image ne = absurd (root refl)
is_other Left Root root image ne = absurd (image refl)
is_other Left Left root image ne = absurd (ne refl)
is_other Left Right root image ne = refl
is_other Right Root root image ne = absurd (image refl)
is_other Right Left root image ne = refl
is_other Right Right root image ne = absurd (ne refl)

-- ---- lengths

more_sizes : (whole up old more n : ℕ) → whole ≡ more + 1 → old ≡ up + 1 → more ≡ up + (5 + n) → whole ≡ old + 5 + n
more_sizes whole up old more n a b c = omega arith

-- the image of one step more
image_push : (head : Head) (h : History) (x : Step)
    → length (image_of head (h ++ x ∷ [])) ≡ length (image_of head h) + 5
    + length (body_of (uids_after (head.uid ∷ []) h) x)
image_push head h x =
    let us = head.uid ∷ [] in let bodies = bodies_of us h in let body = body_of (uids_after us h) x in
    more_sizes _ (length (up_to_gate 2 head bodies)) _ _ (length body)
    (length-append (up_to_gate 2 head (bodies_of us (h ++ x ∷ []))) (0 ∷ []))
    (length-append (up_to_gate 2 head bodies) (0 ∷ []))
    (ap (λ (l : List (List ℕ)). length (up_to_gate 2 head l)) (bodies_of-push us h x)
    ∙ ap length (up_to_gate-push 2 head bodies body)
    ∙ length-append (up_to_gate 2 head bodies) (entry body)
    ∙ ap (λ (n : ℕ). length (up_to_gate 2 head bodies) + n) (length-entry body))

same_less : (a b c d : ℕ) → b ≡ d → a ≡ c → c ≤ d → a ≤ b
same_less a b c d p q h = omega arith

-- the image of further steps
pub lengths : (head : Head) (g xs : History) (x : Step) (size : ℕ) (uids : List Text) → size ≡ length (image_of head g)
    → uids ≡ uids_after (head.uid ∷ []) g
    → length_with size uids xs x ≡ length (image_of head (g ++ (xs ++ x ∷ [])))
lengths head g [] x size uids is names =
    (λ i. is i + 5 + length (body_of (names i) x)) ∙ sym (image_push head g x)
lengths head g (y ∷ xs) x size uids is names =
    lengths head (g ++ y ∷ []) xs x (size + 5 + length (body_of uids y)) (uids ++ added_of uids y)
    ((λ i. is i + 5 + length (body_of (names i) y)) ∙ sym (image_push head g y))
    ((λ i. names i ++ added_of (names i) y) ∙ sym (uids_after-push (head.uid ∷ []) g y))
    ∙ ap (λ (h : History). length (image_of head h)) (append_assoc g (y ∷ []) (xs ++ x ∷ []))

-- ---- the volume

-- what a compaction leaves, by the state of the history
left_of : (s : State) (head : Head) (h : History) → s ≡ state_at head h → compacted s (trimmed s h) ≡ compaction h
left_of s head h e =
    compacted-trimmed s h ∙ ap (λ (t : State). compacted t h) e ∙ same_compacted head.name head.uid h h

ok_steps : (x y : Chronicle) → ◌≡◌ {A = Result Chronicle ℕ} (Ok x) (Ok y) → x.steps ≡ y.steps
ok_steps x y e = let same : x ≡ y = cc e in ap (λ (c : Chronicle). c.steps) same

module _ {D : Type 0} (known : D → Device) (v : Volume D) (k : KeepsHistory v (devices known v).files) where
  -- what is found of the store that was there
  found_before : found_of (seen_of (devices known v).files) ≡ StandingImage v.side 2 k.head k.bodies
  found_before = (store_stands v.journal v.side 2 k.head k.bodies (devices known v).files k.stands).read

  holds_before : (files : Trio (List ℕ)) → found_of files ≡ StandingImage v.side 2 k.head k.bodies
      → store_of files ≡ Holds v.side 2 k.head k.history
  holds_before files e = ap with_steps e ∙ ap (holds_steps v.side 2 k.head) k.says

  -- what the files held is its history
  record IsItsOwn (side : DiskName) (head : Head) (h : History) : Type 0 where
    side_is : side ≡ v.side
    head_is : head ≡ k.head
    history_is : h ≡ k.history

  its_own : (side : DiskName) (head : Head) (h : History)
      → store_of (seen_of (devices known v).files) ≡ Holds side 2 head h → IsItsOwn side head h
  its_own side head h e =
      let both : Holds side 2 head h ≡ Holds v.side 2 k.head k.history =
      sym e ∙ holds_before (seen_of (devices known v).files) found_before in
      record { side_is = cc both; head_is = cc both; history_is = cc both }

  -- ---- where no image was put

  -- nothing was written
  still_keeps : (new : Volume D) → OnlyLooks (devices known v) (devices known new) → new.journal ≡ v.journal
      → new.side ≡ v.side → new.uids ≡ v.uids → new.state ≡ v.state → KeepsHistory new (devices known new).files
  still_keeps new looks journal side uids state = record {
    head = k.head;
    bodies = k.bodies;
    history = k.history;
    stands =
        subst (λ (j : Extent). IsStore j new.side 2 k.head k.bodies (devices known new).files) (sym journal)
        (subst (λ (s : DiskName). IsStore v.journal s 2 k.head k.bodies (devices known new).files) (sym side)
        (still_stands v.journal v.side 2 k.head k.bodies (devices known v) (devices known new) looks k.stands));
    says = k.says ∙ ap (λ u. Ok (record { steps = k.history; uids = u.uids })) (sym uids);
    leaves = ap meaning state ∙ k.leaves;
  }

  pub left_alone : (new : Volume D) → OnlyLooks (devices known v) (devices known new) → new.journal ≡ v.journal
      → new.side ≡ v.side → new.uids ≡ v.uids → new.state ≡ v.state → IsLeftAlone known v new
  left_alone new looks journal side uids state =
      record { looks = looks; keeps = still_keeps new looks journal side uids state }

  still_holds : (files : Trio (List ℕ)) → AreCrashImages (now_of (devices known v).files) files
      → store_of files ≡ Holds v.side 2 k.head k.history
  still_holds files images =
      holds_before files
      ((store_stands v.journal v.side 2 k.head k.bodies (devices known v).files k.stands).left files images)

  looked : (new : Devices) → OnlyLooks (devices known v) new
      → LeavesTogether (devices known v) new (HoldOldOrCompacted v.side k.head k.history)
  looked new looks =
      weaker (devices known v) new (AreCrashImages (now_of (devices known v).files))
      (HoldOldOrCompacted v.side k.head k.history) looks.leaves (λ files images. inl (still_holds files images))

  -- what is said of its history is said of every one that the files hold
  of_any : (new : Devices) → LeavesTogether (devices known v) new (HoldOldOrCompacted v.side k.head k.history)
      → LeavesOldOrCompacted (devices known v) new
  of_any new run side head h e =
      let own = its_own side head h e in
      subst (λ (s : DiskName). LeavesTogether (devices known v) new (HoldOldOrCompacted s head h)) (sym own.side_is)
      (subst (λ (g : Head). LeavesTogether (devices known v) new (HoldOldOrCompacted v.side g h)) (sym own.head_is)
      (subst (λ (g : History). LeavesTogether (devices known v) new (HoldOldOrCompacted v.side k.head g))
      (sym own.history_is) run))

  pub looks_leave : (new : Devices) → OnlyLooks (devices known v) new → LeavesOldOrCompacted (devices known v) new
  looks_leave new looks = of_any new (looked new looks)

  -- both histories leave the state
  pub state_left : (new : Devices) → LeavesOldOrCompacted (devices known v) new
      → LeavesStored (record { state = meaning v.state; limit = v.journal.limit }) (devices known v) new
  state_left new run =
      weaker (devices known v) new (HoldOldOrCompacted v.side k.head k.history)
      (λ files. opens_as files ≡ Stands (record { state = meaning v.state; limit = v.journal.limit }))
      (run v.side k.head k.history (holds_before (seen_of (devices known v).files) found_before))
      (λ files found. ⊎_elim
      (λ e. ap opened_as e ∙ ap Stands (stored_is (state_at k.head k.history) (meaning v.state) k.head.limit
      v.journal.limit k.leaves k.stands.image.extent.limit))
      (λ e. ap opened_as e ∙ ap Stands (stored_is (state_at k.head (compaction k.history)) (meaning v.state)
      k.head.limit v.journal.limit (k.leaves ∙ sym (state_of-compaction k.head.name k.head.uid k.history))
      k.stands.image.extent.limit))
      found)

  -- ---- the image that was read is its own

  pub record IsOwnImage (side : DiskName) (image : StoredImage) : Type 0 where
    side_is : side ≡ v.side
    format_is : image.format ≡ 2
    head_is : image.header ≡ k.head
    bodies_are : image.bodies ≡ k.bodies

  pub own_image : (files : Trio (List ℕ)) (side : DiskName) (image : StoredImage)
      → files ≡ seen_of (devices known v).files
      → found_of files ≡ StandingImage side image.format image.header image.bodies → IsOwnImage side image
  own_image files side image same e =
      let both : StandingImage side image.format image.header image.bodies ≡ StandingImage v.side 2 k.head k.bodies =
      sym e ∙ ap found_of same ∙ found_before in
      record { side_is = cc both; format_is = cc both; head_is = cc both; bodies_are = cc both }

  -- with the limit of the volume its header is the same
  pub own_header : (side : DiskName) (image : StoredImage) (head read : Head) (limit : ℕ) → IsOwnImage side image
      → read ≡ image.header → limit ≡ v.journal.limit → head ≡ record read { limit = limit } → head ≡ image.header
  own_header side image head read limit o same has is =
      let limits : limit ≡ image.header.limit =
      has ∙ k.stands.image.extent.limit ∙ ap (λ (g : Head). g.limit) (sym o.head_is) in
      is ∙ (λ i. record (same i) { limit = limits i })

  pub never_bad : (side : DiskName) (image : StoredImage) (place : ℕ) → IsOwnImage side image → IsBadAt image place → ⊥
  never_bad side image place o bad =
      cc (bad.bad, (λ i. steps_of (o.format_is i) (o.head_is i) (o.bodies_are i)) ∙ k.says)

  module _ (side : DiskName) (image : StoredImage) (o : IsOwnImage side image) (kept : List Held)
      (is : AreKept (meaning v.state) image kept) where
    history_is : is.history ≡ k.history
    history_is = ok_steps _ _ (sym is.says ∙ (λ i. steps_of (o.format_is i) (o.head_is i) (o.bodies_are i)) ∙ k.says)

    -- what is left is the compaction
    left_is : compacted (meaning v.state) (map step_of kept) ≡ compaction k.history
    left_is =
        ap (compacted (meaning v.state)) is.kept
        ∙ ap (λ (h : History). compacted (meaning v.state) (trimmed (meaning v.state) h)) history_is
        ∙ left_of (meaning v.state) k.head k.history k.leaves

    -- the bodies that were there are those of the history
    those_were : AreThose k.head.uid k.history k.bodies is.uids
    those_were =
        let second : image.format ≢ 1 = λ e. omega (arith, e, o.format_is) in
        subst (λ (l : List (List ℕ)). AreThose k.head.uid k.history l is.uids) o.bodies_are
        (subst (λ (h : History). AreThose k.head.uid h image.bodies is.uids) history_is
        (subst (λ (g : Head). AreThose g.uid is.history image.bodies is.uids) o.head_is (is.spelled second)))

    length_before : v.journal.length ≡ length (image_of k.head k.history)
    length_before =
        k.stands.image.extent.all
        ∙ sym (length-append (up_to_gate 2 k.head k.bodies) (0 ∷ []))
        ∙ ap (λ (l : List (List ℕ)). length (up_to_gate 2 k.head l ++ 0 ∷ [])) those_were.bodies_are

    module _ (to : DiskName) (head : Head) (spelled : Spelled) (sides : to ≡ other_side side)
        (same : head ≡ image.header)
        (spells : IsSpelled head.uid (compacted (meaning v.state) (map step_of kept)) spelled) where
      at_other : to ≡ other_side v.side
      at_other = sides ∙ ap other_side o.side_is

      spells_own : IsSpelled k.head.uid (compaction k.history) spelled
      spells_own =
          subst (λ (h : History). IsSpelled k.head.uid h spelled) left_is
          (subst (λ (g : Head). IsSpelled g.uid (compacted (meaning v.state) (map step_of kept)) spelled)
          (same ∙ o.head_is) spells)

      holds_after : (files : Trio (List ℕ))
          → found_of files ≡ StandingImage to 2 k.head (bodies_of (k.head.uid ∷ []) (compaction k.history))
          → store_of files ≡ Holds (other_side v.side) 2 k.head (compaction k.history)
      holds_after files e =
          ap with_steps e
          ∙ ap (holds_steps to 2 k.head) (spelled_says k.head.uid (compaction k.history) spelled spells_own)
          ∙ ap (λ (s : DiskName). Holds s 2 k.head (compaction k.history)) at_other

      pub put_leaves_compacted : (mid new : Devices) → side ≢ to → OnlyLooks (devices known v) mid
          → IsStore image.journal side image.format image.header image.bodies mid.files
          → LeavesOldOrSpelled to head (compacted (meaning v.state) (map step_of kept)) mid new
          → LeavesOldOrCompacted (devices known v) new
      put_leaves_compacted mid new ne looks store run =
          let moves = subst (λ (h : History). LeavesOldOrSpelled to k.head h mid new) left_is
          (subst (λ (g : Head). LeavesOldOrSpelled to g (compacted (meaning v.state) (map step_of kept)) mid new)
          (same ∙ o.head_is) run) in
          of_any new (goes_on (devices known v) mid new (HoldOldOrCompacted v.side k.head k.history) (looked mid looks)
          (weaker mid new _ (HoldOldOrCompacted v.side k.head k.history)
          (moves image.journal side image.format image.header image.bodies ne store)
          (λ files found. ⊎_elim
          (λ e. inl (holds_before files
          (e ∙ (λ i. StandingImage (o.side_is i) (o.format_is i) (o.head_is i) (o.bodies_are i)))))
          (λ e. inr (holds_after files e))
          found)))

      -- ---- the new image stands

      module _ (new : Volume D) (s : Standing) (state : new.state ≡ v.state) (at : new.side ≡ s.side)
          (uids : new.uids ≡ s.uids) (journal : new.journal ≡ s.journal) (nothing : new.staged ≡ [])
          (stands : StandsWith head (compacted (meaning v.state) (map step_of kept)) s (devices known new).files) where
        stands_own : StandsWith k.head (compaction k.history) s (devices known new).files
        stands_own =
            subst (λ (h : History). StandsWith k.head h s (devices known new).files) left_is
            (subst (λ (g : Head). StandsWith g (compacted (meaning v.state) (map step_of kept)) s
            (devices known new).files) (same ∙ o.head_is) stands)

        keeps_compacted : KeepsHistory new (devices known new).files
        keeps_compacted = record {
          head = k.head;
          bodies = stands_own.bodies;
          history = compaction k.history;
          stands =
              subst (λ (j : Extent). IsStore j new.side 2 k.head stands_own.bodies (devices known new).files)
              (sym journal)
              (subst (λ (d : DiskName). IsStore s.journal d 2 k.head stands_own.bodies (devices known new).files)
              (sym at) stands_own.stands);
          says = stands_own.says ∙ ap (λ u. Ok (record { steps = compaction k.history; uids = u.uids })) (sym uids);
          leaves = ap meaning state ∙ k.leaves ∙ sym (state_of-compaction k.head.name k.head.uid k.history);
        }

        module _ (tells : Bool) (side_is : s.side ≡ to) (uids_are : s.uids ≡ spelled.uids)
            (length_is : s.journal.length ≡ length (image_of head (compacted (meaning v.state) (map step_of kept))))
          where
            found_after : found_of (seen_of (devices known new).files)
                ≡ StandingImage s.side 2 k.head stands_own.bodies
            found_after =
                (store_stands s.journal s.side 2 k.head stands_own.bodies
                (devices known new).files stands_own.stands).read

            length_after : new.journal.length ≡ length (image_of k.head (compaction k.history))
            length_after =
                ap (λ (j : Extent). j.length) journal ∙ length_is
                ∙ (λ i. length (image_of ((same ∙ o.head_is) i) (left_is i)))

            uids_after_it : new.uids.uids ≡ uids_after (k.head.uid ∷ []) (compaction k.history)
            uids_after_it = ap (λ u. u.uids) uids ∙ ap (λ u. u.uids) uids_are ∙ spells_own.uids_are

            is_compacted : IsCompacted v.side k.head k.history (seen_of (devices known new).files)
                (volume_known tells known new) (sizes_of v new)
            is_compacted = record {
              holds = ap with_steps found_after
                  ∙ ap (holds_steps s.side 2 k.head) stands_own.says
                  ∙ ap (λ (d : DiskName). Holds d 2 k.head (compaction k.history)) (side_is ∙ at_other);
              before = length_before;
              after = length_after;
              limit = ap (λ (j : Extent). j.limit) journal ∙ stands_own.stands.image.extent.limit;
              need = λ xs x. ap (λ (n : ℕ). min n (2 ^ 64 - 1))
                  (lengths k.head (compaction k.history) xs x (new.journal.length + length new.staged) new.uids.uids
                  (omega (arith, length_after, ap length nothing)) uids_after_it);
            }

            compacts_own : Compacts tells known v new (sizes_of v new)
            compacts_own side head h e =
                let own = its_own side head h e in
                subst (λ (d : DiskName). IsCompacted d head h (seen_of (devices known new).files)
                (volume_known tells known new) (sizes_of v new)) (sym own.side_is)
                (subst (λ (g : Head). IsCompacted v.side g h (seen_of (devices known new).files)
                (volume_known tells known new) (sizes_of v new)) (sym own.head_is)
                (subst (λ (g : History). IsCompacted v.side k.head g (seen_of (devices known new).files)
                (volume_known tells known new) (sizes_of v new)) (sym own.history_is) is_compacted))

            pub written_anew : (sizes : Sizes) → sizes ≡ sizes_of v new
                → LeavesOldOrCompacted (devices known v) (devices known new) → IsWrittenAnew tells known v new sizes
            written_anew sizes are leaves = record {
              keeps = keeps_compacted;
              compacts = subst (Compacts tells known v new) (sym are) compacts_own;
              leaves = leaves;
            }

  -- the new image is no longer
  pub no_longer : (tells : Bool) (new : Volume D) (sizes : Sizes) → Compacts tells known v new sizes
      → sizes.after ≤ sizes.before
  no_longer tells new sizes compacts =
      let is = compacts v.side k.head k.history (holds_before (seen_of (devices known v).files) found_before) in
      same_less sizes.after sizes.before _ _ is.before is.after (image_shorter k.head k.history)

  -- ---- why no image was put

  -- the files that were found before are neither blank nor damaged
  pub not_read : (tells : Bool) (new : Volume D) (files : Trio (List ℕ)) (why : OpenFault)
      → files ≡ seen_of (devices known v).files
      → OpensStore files (Err why) → OnlyLooks (devices known v) (devices known new)
      → KeepsHistory new (devices known new).files → WritesAnew tells known v new (Err (fault_reading why))
  not_read tells new files store.Blank same opens looks keeps = cc (opens, ap found_of same ∙ found_before)
  not_read tells new files (store.Damaged disk place) same opens looks keeps =
      cc (opens, ap found_of same ∙ found_before)
  not_read tells new files store.Disk same opens looks keeps = looks_leave (devices known new) looks
  not_read tells new files store.Memory same opens looks keeps = record { looks = looks; keeps = keeps }

  -- the disks were not called where memory ran out
  pub not_put : (tells : Bool) (mid new : Volume D) (why : PlaceFault)
      → LeavesOldOrCompacted (devices known v) (devices known new)
      → IsLeftAlone known v mid → (why ≡ place.Memory → new ≡ mid)
      → WritesAnew tells known v new (Err (fault_compacting why))
  not_put tells mid new place.Disk leaves alone same = leaves
  not_put tells mid new place.Memory leaves alone same = subst (IsLeftAlone known v) (sym (same refl)) alone

-- a failed disk is told only where it failed
pub disk_compacting : (why : PlaceFault) → fault_compacting why ≡ anew.Disk → why ≡ place.Disk
disk_compacting place.Disk e = refl
disk_compacting place.Memory e = absurd (cc e)
