-- What a crash leaves of a volume on which calls were made.
use Rattle.std.specs.Prelude.{IsTrue, if◌then◌else◌, min}
use Rattle.std.proofs.Common.{◌≡◌, ◌⊎◌, ⊎_elim, inl, inr, ℕ, ◌+◌, ◌-◌, ◌^◌, ◌<◌, ◌≤◌, Bool, true, false, List, [], ◌∷◌}
use Rattle.std.proofs.Common.{◌++◌, length, Ok, Some, refl, sym, ◌∙◌, ap, subst, arith, length-append}
use Rattle.std.proofs.lemmas.List.{append-nil, append_assoc}
use Rattle.conflicts.specs.State.{History, State, Step, Text, after}
use Rattle.conflicts.proofs.States.{goes_on}
use Rattle.disk_model.specs.Device.{Device}
use Rattle.disks.specs.declared.name.DiskName.{DiskName}
use Rattle.disks.specs.declared.trio.Trio.{Trio}
use Rattle.disks.specs.Joint.{AreCrashImages, Devices, JointMoment, now_of, seen_of}
use Rattle.disks.specs.Moments.{LeavesTogether}
use Rattle.disks.proofs.Runs.{at_moment, begins, earlier, weaker}
use Rattle.journal.specs.Image.{Head, body_field, entries}
use Rattle.journal.specs.Entries.{AreSpelled}
use Rattle.journal.specs.Journal.{Extent}
use Rattle.journal.proofs.Fields.{length-body_field}
use Rattle.replica_state.specs.Held.{meaning}
use Rattle.volume.specs.Store.{IsStore, found_of}
use Rattle.volume.specs.Store.FoundImages.{Stands as StandingImage}
use Rattle.volume.specs.Crashes.{LeavesOldOrAllMore, LeavesOldOrOneMore, StandsAllMore, StandsOneMore}
use Rattle.volume.proofs.Standing.{store_stands}
use Rattle.record_codec.specs.Bodies.{added_of, body_of, step_in}
use Rattle.replica_core.specs.Replica.{AddsOnly, Found, MayStand, NeedsBehind, StandsAsEither, Stored, stored_as}
use Rattle.replica_core.specs.Replica.{stored_in}
use Rattle.replica_core.specs.Replica.Found.{Stands}
use Rattle.replica_volume.specs.Keeping.{HoldsMore, IsOldOrMore, LeavesOldOrMore}
use Rattle.replica_volume.specs.Settled.{stored_is}
use Rattle.replica_volume.specs.Staging.{KeepsStaged, StagesSteps}
use Rattle.replica_volume.specs.Steps.{state_at, steps_of}
use Rattle.replica_volume.specs.Store.{StoreFound, holds_steps, opened_as, opens_as, store_of, stored_at, with_steps}
use Rattle.replica_volume.specs.Store.StoreFound.{Holds}
use Rattle.replica_volume.specs.Volume.{KeepsHistory, devices, length_with, moments, volume_crash, volume_known}
use Rattle.replica_volume.specs.declared.replica.Volume.{Volume}
use Rattle.replica_volume.proofs.Read.{one_said}

told_moments : (tells : Bool) (d : Devices) → IsTrue tells → moments tells d ≡ length d.past
told_moments tells d t = ap (λ (b : Bool). if b then length d.past else 0) t

by_tells : (tells : Bool) (n m : ℕ) → (IsTrue tells → n ≤ m) → (if tells then n else 0) ≤ (if tells then m else 0)
by_tells true n m h = h refl
by_tells false n m h = omega arith

-- a run of calls adds only the moments within it, and what these leave
pub run_adds : {D : Type 0} (tells : Bool) (known : D → Device) (old new : Volume D) (P : Found Stored → Type 0)
    → (IsTrue tells → LeavesTogether (devices known old) (devices known new) (λ files. P (opens_as files)))
    → AddsOnly (volume_known tells known) (volume_crash tells known) old new P
run_adds tells known old new P run = record {
  later = by_tells tells (length (devices known old).past) (length (devices known new).past) (λ t.
      omega (arith, ap length (run t).added, length-append (devices known old).past (run t).fresh));
  same = λ k o low crash. (
    crash.0,
    (
      crash.1.0,
      subst (λ (m : JointMoment). AreCrashImages m crash.1.0)
          (earlier (devices known old) (devices known new) (run crash.0).fresh (run crash.0).added k
          (subst (λ (n : ℕ). k < n) (told_moments tells (devices known old) crash.0) low)) crash.1.1,
      crash.1.2,
    ),
  );
  added = λ k o low high crash.
      subst P (sym crash.1.2)
      (at_moment (devices known old) (devices known new) (λ files. P (opens_as files)) (run crash.0) k
      (subst (λ (n : ℕ). n ≤ k) (told_moments tells (devices known old) crash.0) low) crash.1.0 crash.1.1);
}

-- where no call was made, nothing is added
pub no_call_leaves : {D : Type 0} (known : D → Device) (old new : Volume D) (P : Trio (List ℕ) → Type 0)
    → devices known new ≡ devices known old
    → ((files : Trio (List ℕ)) → AreCrashImages (now_of (devices known old).files) files → P files)
    → LeavesTogether (devices known old) (devices known new) P
no_call_leaves known old new P same leaves =
    subst (λ (d : Devices). LeavesTogether (devices known old) d P) (sym same) (begins (devices known old) P leaves)

pub no_call_adds : {D : Type 0} (tells : Bool) (known : D → Device) (old new : Volume D) (P : Found Stored → Type 0)
    → devices known new ≡ devices known old
    → (IsTrue tells → (files : Trio (List ℕ)) → AreCrashImages (now_of (devices known old).files) files
    → P (opens_as files))
    → AddsOnly (volume_known tells known) (volume_crash tells known) old new P
no_call_adds tells known old new P same leaves =
    run_adds tells known old new P (λ t. no_call_leaves known old new (λ files. P (opens_as files)) same (leaves t))

-- a crash leaves what the files held
pub still_held : {D : Type 0} (known : D → Device) (v : Volume D) (head : Head) (bodies : List (List ℕ))
    → IsStore v.journal v.side 2 head bodies (devices known v).files → (files : Trio (List ℕ))
    → AreCrashImages (now_of (devices known v).files) files
    → store_of files ≡ store_of (seen_of (devices known v).files)
still_held known v head bodies stands files images =
    let stood = store_stands v.journal v.side 2 head bodies (devices known v).files stands in
    ap with_steps (stood.left files images ∙ sym stood.read)

-- ---- more bodies stand behind those of a store, or they do not

module _ {D : Type 0} (known : D → Device) (old : Volume D) (head : Head) (bodies more : List (List ℕ))
    (h later : History) (us vs : List Text)
    (stands : IsStore old.journal old.side 2 head bodies (devices known old).files)
    (said : steps_of 2 head bodies ≡ Ok (record { steps = h; uids = us }))
    (says : steps_of 2 head (bodies ++ more) ≡ Ok (record { steps = h ++ later; uids = vs })) where
  holds_old : (files : Trio (List ℕ)) → found_of files ≡ StandingImage old.side 2 head bodies
      → store_of files ≡ Holds old.side 2 head h
  holds_old files e = ap with_steps e ∙ ap (holds_steps old.side 2 head) said

  holds_all : (files : Trio (List ℕ)) → found_of files ≡ StandingImage old.side 2 head (bodies ++ more)
      → store_of files ≡ Holds old.side 2 head (h ++ later)
  holds_all files e = ap with_steps e ∙ ap (holds_steps old.side 2 head) says

  pub was_held : store_of (seen_of (devices known old).files) ≡ Holds old.side 2 head h
  was_held =
      holds_old (seen_of (devices known old).files)
      (store_stands old.journal old.side 2 head bodies (devices known old).files stands).read

  module _ (new : Devices)
      (run : LeavesTogether (devices known old) new (λ files. (found_of files ≡ StandingImage old.side 2 head bodies)
      ⊎ (found_of files ≡ StandingImage old.side 2 head (bodies ++ more)))) where
    pub leaves_more : LeavesOldOrMore later (devices known old) new
    leaves_more =
        subst (λ (f : StoreFound). LeavesTogether (devices known old) new
        (λ files. IsOldOrMore later f (store_of files))) (sym was_held)
        (weaker (devices known old) new _ (λ files. IsOldOrMore later (Holds old.side 2 head h) (store_of files)) run
        (λ files found. ⊎_elim (λ e. inl (holds_old files e)) (λ e. inr (holds_all files e)) found))

    pub opens_more : (P : Found Stored → Type 0) → P (Stands (stored_at head h))
        → P (Stands (stored_at head (h ++ later)))
        → LeavesTogether (devices known old) new (λ files. P (opens_as files))
    opens_more P without with_them =
        weaker (devices known old) new _ (λ files. P (opens_as files)) run
        (λ files found. ⊎_elim
        (λ e. subst P (sym (ap opened_as (holds_old files e))) without)
        (λ e. subst P (sym (ap opened_as (holds_all files e))) with_them)
        found)

  pub holds_more : (new : Volume D) → IsStore new.journal old.side 2 head (bodies ++ more) (devices known new).files
      → HoldsMore later (store_of (seen_of (devices known old).files)) (store_of (seen_of (devices known new).files))
  holds_more new there =
      subst (λ (f : StoreFound). HoldsMore later f (store_of (seen_of (devices known new).files))) (sym was_held)
      (holds_all (seen_of (devices known new).files)
      (store_stands new.journal old.side 2 head (bodies ++ more) (devices known new).files there).read)

-- ---- the body of a step was added

module _ {D : Type 0} (tells : Bool) (known : D → Device) (old : Volume D) (x : Step) (body : List ℕ)
    (added : List (List ℕ)) (said : step_in old.uids.uids body ≡ Ok (record { step = x; added = added }))
    (k : KeepsHistory old (devices known old).files) where
  one_more_said : steps_of 2 k.head (k.bodies ++ body ∷ [])
      ≡ Ok (record { steps = k.history ++ x ∷ []; uids = old.uids.uids ++ added })
  one_more_said =
      one_said 2 (k.head.uid ∷ []) k.bodies body (record { steps = k.history; uids = old.uids.uids })
      (record { step = x; added = added }) k.says said

  one_more_leaves : after (meaning old.state) x ≡ state_at k.head (k.history ++ x ∷ [])
  one_more_leaves =
      ap (λ (s : State). after s x) k.leaves ∙ sym (goes_on.step k.head.name k.head.uid k.history x)

  -- the store with it or without it
  pub append_opens : (new : Devices) (written : Bool) → IsTrue written
      → LeavesOldOrOneMore body old.side old.journal (devices known old) new
      → LeavesTogether (devices known old) new
      (λ files. MayStand (stored_in (volume_known tells known old)) (Some x) written (opens_as files))
  append_opens new written w run =
      opens_more known old k.head k.bodies (body ∷ []) k.history (x ∷ []) old.uids.uids (old.uids.uids ++ added)
      k.stands k.says one_more_said new (run 2 k.head k.bodies k.stands)
      (MayStand (stored_in (volume_known tells known old)) (Some x) written)
      (inl (ap Stands (stored_is (state_at k.head k.history) (meaning old.state) k.head.limit old.journal.limit
      k.leaves k.stands.image.extent.limit)))
      (inr (
        w,
        ap Stands (stored_is (state_at k.head (k.history ++ x ∷ [])) (after (meaning old.state) x) k.head.limit
            old.journal.limit one_more_leaves k.stands.image.extent.limit),
      ))

  pub append_leaves : (new : Devices) → LeavesOldOrOneMore body old.side old.journal (devices known old) new
      → LeavesOldOrMore (x ∷ []) (devices known old) new
  append_leaves new run =
      leaves_more known old k.head k.bodies (body ∷ []) k.history (x ∷ []) old.uids.uids (old.uids.uids ++ added)
      k.stands k.says one_more_said new (run 2 k.head k.bodies k.stands)

  module _ (new : Volume D)
      (more : StandsOneMore body old.side old.journal new.journal (devices known old).files (devices known new).files)
    where
      pub append_holds : HoldsMore (x ∷ []) (store_of (seen_of (devices known old).files))
          (store_of (seen_of (devices known new).files))
      append_holds =
          holds_more known old k.head k.bodies (body ∷ []) k.history (x ∷ []) old.uids.uids (old.uids.uids ++ added)
          k.stands k.says one_more_said new (more 2 k.head k.bodies k.stands)

      -- it keeps the history with the step
      pub append_keeps : new.side ≡ old.side → new.uids.uids ≡ old.uids.uids ++ added
          → meaning new.state ≡ after (meaning old.state) x → KeepsHistory new (devices known new).files
      append_keeps side uids state = record {
        head = k.head;
        bodies = k.bodies ++ body ∷ [];
        history = k.history ++ x ∷ [];
        stands = subst (λ (s : DiskName). IsStore new.journal s 2 k.head (k.bodies ++ body ∷ [])
            (devices known new).files) (sym side) (more 2 k.head k.bodies k.stands);
        says = one_more_said ∙ ap (λ (us : List Text). Ok (record { steps = k.history ++ x ∷ []; uids = us }))
            (sym uids);
        leaves = state ∙ one_more_leaves;
      }

-- ---- no disk was called

-- what stood on the disks stands there
pub same_store : {D : Type 0} (known : D → Device) (old new : Volume D) (head : Head) (bodies : List (List ℕ))
    → devices known new ≡ devices known old → new.journal ≡ old.journal → new.side ≡ old.side
    → IsStore old.journal old.side 2 head bodies (devices known old).files
    → IsStore new.journal new.side 2 head bodies (devices known new).files
same_store known old new head bodies same journal side stands =
    subst (λ (d : Devices). IsStore new.journal new.side 2 head bodies d.files) (sym same)
    (subst (λ (j : Extent). IsStore j new.side 2 head bodies (devices known old).files) (sym journal)
    (subst (λ (s : DiskName). IsStore old.journal s 2 head bodies (devices known old).files) (sym side) stands))

-- the body of a step was staged
module _ {D : Type 0} (known : D → Device) (old new : Volume D) (x : Step) (body : List ℕ) (added : List (List ℕ))
    (said : step_in old.uids.uids body ≡ Ok (record { step = x; added = added }))
    (same : devices known new ≡ devices known old) (journal : new.journal ≡ old.journal) (side : new.side ≡ old.side)
    (uids : new.uids.uids ≡ old.uids.uids ++ added)
    (spelled : (bodies : List (List ℕ)) → AreSpelled bodies old.staged → AreSpelled (bodies ++ body ∷ []) new.staged)
  where
    staged_says : (later : History) (s : StagesSteps old (devices known old).files later)
        → steps_of 2 s.head (s.bodies ++ (s.more ++ body ∷ []))
        ≡ Ok (record { steps = s.history ++ (later ++ x ∷ []); uids = new.uids.uids })
    staged_says later s =
        ap (steps_of 2 s.head) (sym (append_assoc s.bodies s.more (body ∷ [])))
        ∙ one_said 2 (s.head.uid ∷ []) (s.bodies ++ s.more) body
        (record { steps = s.history ++ later; uids = old.uids.uids }) (record { step = x; added = added }) s.says said
        ∙ (λ i. Ok (record { steps = append_assoc s.history later (x ∷ []) i; uids = sym uids i }))

    pub stages_more : (later : History) → StagesSteps old (devices known old).files later
        → StagesSteps new (devices known new).files (later ++ x ∷ [])
    stages_more later s = record {
      head = s.head;
      bodies = s.bodies;
      more = s.more ++ body ∷ [];
      history = s.history;
      uids = s.uids;
      stands = same_store known old new s.head s.bodies same journal side s.stands;
      spelled = spelled s.more s.spelled;
      said = s.said;
      says = staged_says later s;
    }

    pub keeps_more : (kept : State) → meaning new.state ≡ after (meaning old.state) x
        → KeepsStaged old (devices known old).files kept → KeepsStaged new (devices known new).files kept
    keeps_more kept state k =
        let s = k.steps in record {
          later = k.later ++ x ∷ [];
          steps = record {
            head = s.head;
            bodies = s.bodies;
            more = s.more ++ body ∷ [];
            history = s.history;
            uids = s.uids;
            stands = same_store known old new s.head s.bodies same journal side s.stands;
            spelled = spelled s.more s.spelled;
            said = s.said;
            says = staged_says k.later s;
          };
          was = k.was;
          leaves = state ∙ ap (λ (t : State). after t x) k.leaves
              ∙ sym (goes_on.step s.head.name s.head.uid (s.history ++ k.later) x)
              ∙ ap (state_at s.head) (append_assoc s.history k.later (x ∷ []));
        }

-- ---- the entries that were staged were added

-- no bytes are no entries
no_entries : (bodies : List (List ℕ)) → AreSpelled bodies [] → bodies ≡ []
no_entries [] s = refl
no_entries (b ∷ bodies) s = absurd (omega (
  arith,
  ap length s.is,
  length-append (body_field b) (entries bodies ++ 0 ∷ []),
  length-body_field b,
))

module _ {D : Type 0} (tells : Bool) (known : D → Device) (old : Volume D) where
  pub flush_leaves : (later : History) → StagesSteps old (devices known old).files later → (new : Devices)
      → LeavesOldOrAllMore old.staged old.side old.journal (devices known old) new
      → LeavesOldOrMore later (devices known old) new
  flush_leaves later s new run =
      leaves_more known old s.head s.bodies s.more s.history later s.uids old.uids.uids s.stands s.said s.says new
      (run s.more s.spelled 2 s.head s.bodies s.stands)

  pub flush_holds : (later : History) → StagesSteps old (devices known old).files later → (new : Volume D)
      → StandsAllMore old.staged old.side old.journal new.journal (devices known old).files (devices known new).files
      → HoldsMore later (store_of (seen_of (devices known old).files)) (store_of (seen_of (devices known new).files))
  flush_holds later s new more =
      holds_more known old s.head s.bodies s.more s.history later s.uids old.uids.uids s.stands s.said s.says new
      (more s.more s.spelled 2 s.head s.bodies s.stands)

  module _ (kept : State) (k : KeepsStaged old (devices known old).files kept) where
    pub flush_opens : (new : Devices) → LeavesOldOrAllMore old.staged old.side old.journal (devices known old) new
        → LeavesTogether (devices known old) new (λ files. StandsAsEither (stored_as (volume_known tells known old) kept)
        (stored_in (volume_known tells known old)) (opens_as files))
    flush_opens new run =
        let s = k.steps in
        opens_more known old s.head s.bodies s.more s.history k.later s.uids old.uids.uids s.stands s.said s.says new
        (run s.more s.spelled 2 s.head s.bodies s.stands)
        (StandsAsEither (stored_as (volume_known tells known old) kept) (stored_in (volume_known tells known old)))
        (inl (ap Stands (stored_is (state_at s.head s.history) kept s.head.limit old.journal.limit k.was
        s.stands.image.extent.limit)))
        (inr (ap Stands (stored_is (state_at s.head (s.history ++ k.later)) (meaning old.state) s.head.limit
        old.journal.limit k.leaves s.stands.image.extent.limit)))

    -- the history is that with all of them
    pub flush_keeps : (new : Volume D) → new.side ≡ old.side → new.uids ≡ old.uids → new.state ≡ old.state
        → StandsAllMore old.staged old.side old.journal new.journal (devices known old).files (devices known new).files
        → KeepsHistory new (devices known new).files
    flush_keeps new side uids state more =
        let s = k.steps in record {
          head = s.head;
          bodies = s.bodies ++ s.more;
          history = s.history ++ k.later;
          stands = subst (λ (d : DiskName). IsStore new.journal d 2 s.head (s.bodies ++ s.more)
              (devices known new).files) (sym side) (more s.more s.spelled 2 s.head s.bodies s.stands);
          says = s.says ∙ ap (λ u. Ok (record { steps = s.history ++ k.later; uids = u.uids })) (sym uids);
          leaves = ap meaning state ∙ k.leaves;
        }

-- where no entries were staged, all of them stand there
pub none_stands : {D : Type 0} (known : D → Device) (v : Volume D) → v.staged ≡ []
    → StandsAllMore v.staged v.side v.journal v.journal (devices known v).files (devices known v).files
none_stands known v nothing more are format head bodies s =
    subst (λ (bs : List (List ℕ)). IsStore v.journal v.side format head bs (devices known v).files)
    (sym (append-nil bodies) ∙ ap (λ (bs : List (List ℕ)). bodies ++ bs)
    (sym (no_entries more (subst (AreSpelled more) nothing are)))) s

-- ---- what further steps need

pub needs_more : {D : Type 0} (tells : Bool) (known : D → Device) (old new : Volume D) (x : Step)
    → new.journal.length + length new.staged
    ≡ old.journal.length + length old.staged + 5 + length (body_of old.uids.uids x)
    → new.uids.uids ≡ old.uids.uids ++ added_of old.uids.uids x
    → NeedsBehind (volume_known tells known old) (volume_known tells known new) (x ∷ [])
needs_more tells known old new x longer uids xs y =
    λ i. min (length_with (longer i) (uids i) xs y) (2 ^ 64 - 1)

pub needs_same : {D : Type 0} (tells : Bool) (known : D → Device) (old new : Volume D)
    → new.journal.length + length new.staged ≡ old.journal.length + length old.staged
    → new.uids.uids ≡ old.uids.uids → NeedsBehind (volume_known tells known old) (volume_known tells known new) []
needs_same tells known old new same uids xs y = λ i. min (length_with (same i) (uids i) xs y) (2 ^ 64 - 1)
