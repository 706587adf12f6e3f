-- The exits of a commit and of a staging.
use Rattle.std.specs.Prelude.{IsTrue, OnErr, min}
use Rattle.std.proofs.Common.{◌≡◌, ◌≢◌, ⊎_elim, inl, inr, ℕ, ◌+◌, ◌-◌, ◌^◌, ◌<◌, ◌≤◌, Bool, true, false, List, [], ◌∷◌}
use Rattle.std.proofs.Common.{◌++◌, length}
use Rattle.std.proofs.Common.{Result, Ok, Err, Some, refl, sym, ◌∙◌, ap, subst, arith}
use Rattle.u1_base.specs.Causes.{HasCauseOf, Rose}
use Rattle.conflicts.specs.State.{History, State, Step, Text, after}
use Rattle.disk_model.specs.Counts.{called}
use Rattle.disk_model.specs.Device.{Device, File}
use Rattle.disks.specs.declared.trio.Trio.{Trio}
use Rattle.disks.specs.declared.three.Disks.{Disks}
use Rattle.disks.specs.Joint.{Devices}
use Rattle.disks.specs.Disks.{disks_known, turned}
use Rattle.journal.specs.Entries.{AreSpelled, extended}
use Rattle.journal.specs.Image.{Head}
use Rattle.journal.specs.Journal.{Extent, IsFull, need}
use Rattle.journal.specs.declared.appending.AppendFault.{AppendFault}
use Rattle.journal.specs.declared.appending.AppendFault.TheVariants as append
use Rattle.replica_state.specs.Held.{Lists, lists_of, meaning, meaning_of}
use Rattle.volume.specs.Crashes.{LeavesOldOrOneMore, StandsOneMore}
use Rattle.record_codec.specs.Bodies.{added_of, body_of, step_in}
use Rattle.replica_core.specs.Replica.{AddsOnly, Found, HasFailed, IsLeft, IsTooLong, MayStand, NeedsBehind, StandsAs}
use Rattle.replica_core.specs.Replica.{Stored, is_disk, stored_as, stored_in}
use Rattle.replica_core.specs.Replica.Found.{Stands}
use Rattle.replica_core.specs.declared.fault.CommitFault.{CommitFault}
use Rattle.replica_core.specs.declared.fault.CommitFault.TheVariants as commit
use Rattle.replica_volume.specs.inner.Committing.{Commits, IsAsBefore, Takes, fault_adding, opened_behind}
use Rattle.replica_volume.specs.Keeping.{LeavesOldOrMore}
use Rattle.replica_volume.specs.Settled.{opens_its_state, opens_kept}
use Rattle.replica_volume.specs.Staging.{IsStagedVolume, KeepsStaged, StagesSteps}
use Rattle.replica_volume.specs.Steps.{steps_of}
use Rattle.replica_volume.specs.Volume.{IsOpenVolume, KeepsHistory, devices, volume_crash, volume_known}
use Rattle.replica_volume.specs.declared.replica.Volume.{Volume}
use Rattle.replica_volume.proofs.Commits.{append_holds, append_keeps, append_leaves, append_opens, keeps_more}
use Rattle.replica_volume.proofs.Commits.{needs_more}
use Rattle.replica_volume.proofs.Commits.{needs_same, no_call_adds, no_call_leaves, run_adds, same_store, stages_more}
use Rattle.replica_volume.proofs.Commits.{still_held}

-- a volume that is the same commits the same
pub same_commits : {D : Type 0} (tells : Bool) (known : D → Device) (old new made : Volume D) (x : Step)
    (result : Result (Unit {0}) CommitFault) → new ≡ made → Commits tells known old made x result
    → Commits tells known old new x result
same_commits {D} tells known old new made x result same is =
    subst (λ (v : Volume D). Commits tells known old v x result) (sym same) is

-- and takes the same
pub same_takes : {D : Type 0} (tells : Bool) (known : D → Device) (old new made : Volume D) (x : Step)
    (result : Result (Unit {0}) CommitFault) → new ≡ made → Takes tells known old made x result
    → Takes tells known old new x result
same_takes {D} tells known old new made x result same is =
    subst (λ (v : Volume D). Takes tells known old v x result) (sym same) is

-- what holds holds at a fault
pub on_err : {T E : Type 0} (result : Result T E) (P : Type 0) → P → OnErr result P
on_err (Ok done) P p = tt
on_err (Err fault) P p = p

no_more : (now was more : ℕ) → now ≡ was → now ≤ was + more
no_more now was more e = omega arith

no_less : (now was : ℕ) → now ≡ was → was ≤ now
no_less now was e = omega arith

-- ---- no disk was called

-- nothing has changed but the room for a step, and which disk is called next
pub record IsQuiet {D : Type 0} (known : D → Device) (old new : Volume D) : Type 0 where
  pub disks : devices known new ≡ devices known old
  pub side : new.side ≡ old.side
  pub journal : new.journal ≡ old.journal
  pub opened : new.open ≡ old.open
  pub staged : new.staged ≡ old.staged
  pub uids : new.uids.uids ≡ old.uids.uids
  pub state : meaning new.state ≡ meaning old.state

pub quiet : {D : Type 0} (known : D → Device) (old new : Volume D) → IsAsBefore old new → IsQuiet known old new
quiet known old new same = record {
  disks = ap (disks_known known) same.disks;
  side = same.side;
  journal = same.journal;
  opened = same.opened;
  staged = same.staged;
  uids = same.uids;
  state = ap meaning_of same.lists;
}

-- nor has it after two such calls
pub as_before_both : {D : Type 0} (old mid new : Volume D) → IsAsBefore old mid → IsAsBefore mid new
    → IsAsBefore old new
as_before_both old mid new first second = record {
  disks = second.disks ∙ first.disks;
  side = second.side ∙ first.side;
  journal = second.journal ∙ first.journal;
  opened = second.opened ∙ first.opened;
  staged = second.staged ∙ first.staged;
  uids = second.uids ∙ first.uids;
  lists = second.lists ∙ first.lists;
}

module _ {D : Type 0} (tells : Bool) (known : D → Device) (old new : Volume D) (same : IsQuiet known old new) where
  pub quiet_need : NeedsBehind (volume_known tells known old) (volume_known tells known new) []
  quiet_need = needs_same tells known old new (λ i. (same.journal i).length + length (same.staged i)) same.uids

  pub quiet_later : (devices known old).faults ≤ (devices known new).faults
  quiet_later =
      no_less (devices known new).faults (devices known old).faults (ap (λ (d : Devices). d.faults) same.disks)

  -- ---- an open volume

  module _ (is : IsOpenVolume tells known old) where
    quiet_keeps : KeepsHistory old (devices known old).files → KeepsHistory new (devices known new).files
    quiet_keeps k = record {
      head = k.head;
      bodies = k.bodies;
      history = k.history;
      stands = same_store known old new k.head k.bodies same.disks same.journal same.side k.stands;
      says = k.says ∙ ap (λ (us : List Text). Ok (record { steps = k.history; uids = us })) (sym same.uids);
      leaves = same.state ∙ k.leaves;
    }

    pub quiet_open : IsOpenVolume tells known new
    quiet_open = record {
      ready = same.opened ∙ is.ready;
      image = λ e. is.image (sym same.side ∙ e);
      nothing = same.staged ∙ is.nothing;
      keeps = λ t. quiet_keeps (is.keeps t);
    }

    pub quiet_adds : (P : Found Stored → Type 0) → P (Stands (stored_in (volume_known tells known old)))
        → AddsOnly (volume_known tells known) (volume_crash tells known) old new P
    quiet_adds P p =
        no_call_adds tells known old new P same.disks
        (λ t files images. subst P (sym (opens_its_state tells known old (is.keeps t) files images)) p)

    pub quiet_history : (more : History) → IsTrue tells → LeavesOldOrMore more (devices known old) (devices known new)
    quiet_history more t =
        let k = is.keeps t in
        no_call_leaves known old new _ same.disks
        (λ files images. inl (still_held known old k.head k.bodies k.stands files images))

    -- so a commit fails
    pub quiet_commits : (x : Step) (why : CommitFault) → is_disk why ≡ false → new.journal.limit ≡ old.journal.limit
        → HasFailed (volume_known tells known old) (volume_known tells known new) (Some x) why
        → ((volume_known tells known old).limit < (volume_known tells known old).need [] x
        → IsTooLong (volume_known tells known old) x why)
        → lists_of new.state ≡ lists_of old.state → Commits tells known old new x (Err why)
    quiet_commits x why other limit cause long lists = record {
      ok = tt;
      need = tt;
      cause = cause;
      too_long = long;
      state = lists;
      left = subst (λ (b : Bool). IsLeft (volume_known tells known old) (volume_known tells known new)
          (IsOpenVolume tells known new) b) (sym other) (quiet_open, quiet_need);
      any_moment = quiet_adds (MayStand (stored_in (volume_known tells known old)) (Some x) (is_disk why)) (inl refl);
      limit = limit;
      later = quiet_later;
      history = λ t. tt;
      any_history = quiet_history (x ∷ []);
      calls = tt;
      most_calls = no_more (devices known new).made (devices known old).made
          (min 4 (2 ^ 64 - 1 - (devices known old).made)) (ap (λ (d : Devices). d.made) same.disks);
      untouched = λ named. same.disks;
    }

  -- ---- a volume with staged steps

  pub quiet_adds_staged : (kept : State) → IsStagedVolume tells known old kept
      → AddsOnly (volume_known tells known) (volume_crash tells known) old new
      (StandsAs (stored_as (volume_known tells known old) kept))
  quiet_adds_staged kept is =
      no_call_adds tells known old new (StandsAs (stored_as (volume_known tells known old) kept)) same.disks
      (λ t files images. opens_kept tells known old kept (is.keeps t) files images)

  quiet_says : (head : Head) (bodies more : List (List ℕ)) (h : History)
      → steps_of 2 head (bodies ++ more) ≡ Ok (record { steps = h; uids = old.uids.uids })
      → steps_of 2 head (bodies ++ more) ≡ Ok (record { steps = h; uids = new.uids.uids })
  quiet_says head bodies more h says =
      says ∙ ap (λ (us : List Text). Ok (record { steps = h; uids = us })) (sym same.uids)

  pub quiet_stages : (later : History) → StagesSteps old (devices known old).files later
      → StagesSteps new (devices known new).files later
  quiet_stages later s = record {
    head = s.head;
    bodies = s.bodies;
    more = s.more;
    history = s.history;
    uids = s.uids;
    stands = same_store known old new s.head s.bodies same.disks same.journal same.side s.stands;
    spelled = subst (AreSpelled s.more) (sym same.staged) s.spelled;
    said = s.said;
    says = quiet_says s.head s.bodies s.more (s.history ++ later) s.says;
  }

  quiet_staged : (kept : State) → KeepsStaged old (devices known old).files kept
      → KeepsStaged new (devices known new).files kept
  quiet_staged kept k =
      let s = k.steps in record {
        later = k.later;
        steps = record {
          head = s.head;
          bodies = s.bodies;
          more = s.more;
          history = s.history;
          uids = s.uids;
          stands = same_store known old new s.head s.bodies same.disks same.journal same.side s.stands;
          spelled = subst (AreSpelled s.more) (sym same.staged) s.spelled;
          said = s.said;
          says = quiet_says s.head s.bodies s.more (s.history ++ k.later) s.says;
        };
        was = k.was;
        leaves = same.state ∙ k.leaves;
      }

  pub quiet_stays : (kept : State) → IsStagedVolume tells known old kept → IsStagedVolume tells known new kept
  quiet_stays kept is = record {
    ready = same.opened ∙ is.ready;
    image = λ e. is.image (sym same.side ∙ e);
    within = ⊎_elim (λ e. inl (same.staged ∙ e))
        (λ h. inr (omega (
          arith,
          h,
          ap (λ (j : Extent). j.length) same.journal,
          ap length same.staged,
          ap (λ (j : Extent). j.limit) same.journal,
        )))
        is.within;
    keeps = λ t. quiet_staged kept (is.keeps t);
  }

  -- so a staging fails
  pub quiet_takes : (x : Step) (why : CommitFault) → why ≢ commit.Disk → new.journal.limit ≡ old.journal.limit
      → HasFailed (volume_known tells known old) (volume_known tells known new) (Some x) why
      → ((volume_known tells known old).limit < (volume_known tells known old).need [] x
      → IsTooLong (volume_known tells known old) x why)
      → lists_of new.state ≡ lists_of old.state → Takes tells known old new x (Err why)
  quiet_takes x why other limit cause long lists = record {
    ok = tt;
    need = tt;
    stays = quiet_stays;
    cause = cause;
    no_disk = λ e. other (cc e);
    too_long = long;
    state = lists;
    left = quiet_need;
    any_moment = quiet_adds_staged;
    limit = limit;
    untouched = same.disks;
    taken = λ t. tt;
    refused = λ t later s. quiet_stages later s;
  }

-- ---- why an image is full

with_nothing : (journal : Extent) (staged : List ℕ) → staged ≡ [] → extended journal staged ≡ journal
with_nothing journal staged e =
    let same : journal.length + length staged ≡ journal.length = omega (arith, ap length e) in
    λ i. record { length = same i; limit = journal.limit }

-- the journal stands for the image with all that is staged
module _ {D : Type 0} (tells : Bool) (known : D → Device) (old mid : Volume D) (same : IsAsBefore old mid)
    (body : List ℕ) (x : Step) (spelled : body ≡ body_of mid.uids.uids x) (journal : Extent)
    (stands : journal ≡ extended mid.journal mid.staged) where
  -- the length with the body is that with the body of the step
  needed : need journal (length body) ≡ (volume_known tells known old).need [] x
  needed =
      (λ i. need (stands i) (length (spelled i)))
      ∙ (λ i. need (extended (same.journal i) (same.staged i)) (length (body_of (same.uids i) x)))

  limited : journal.limit ≡ old.journal.limit
  limited = ap (λ (j : Extent). j.limit) stands ∙ ap (λ (j : Extent). j.limit) same.journal

  pub is_full : (volume_known tells known old).limit < (volume_known tells known old).need [] x
      → IsFull journal (length body)
  is_full h = omega (arith, h, needed, limited)

  -- the cause of a full image
  pub full_cause : (result : Result (Unit {0}) AppendFault) (n m : ℕ) → result ≡ Err (append.Full n m)
      → (IsFull journal (length body) → result ≡ Err (append.Full (need journal (length body)) journal.limit))
      → ((k l : ℕ) → result ≡ Err (append.Full k l) → IsFull journal (length body))
      → (n ≡ (volume_known tells known old).need [] x) × (m ≡ (volume_known tells known old).limit)
      × ((volume_known tells known old).limit < (volume_known tells known old).need [] x)
  full_cause result n m e full only =
      let is = only n m e in
      let same_ : Err (append.Full n m) ≡ Err (append.Full (need journal (length body)) journal.limit) = sym e ∙ full is
      in
      let first : n ≡ need journal (length body) = cc same_ in
      let second : m ≡ journal.limit = cc same_ in
      (first ∙ needed, second ∙ limited, omega (arith, is, needed, limited))

-- ---- what is said of each exit

-- only a failed disk closes a volume
pub still_opened : (why : AppendFault) (was : Bool)
    → ◌≢◌ {A = Result (Unit {0}) AppendFault} (Err why) (Err append.Disk) → opened_behind why was ≡ was
still_opened (append.Full n m) was other = refl
still_opened append.Disk was other = absurd (other refl)
still_opened append.Memory was other = refl

module _ {D : Type 0} (tells : Bool) (known : D → Device) (old mid : Volume D) (same : IsAsBefore old mid)
    (body : List ℕ) (x : Step) (added : List (List ℕ))
    (said : step_in mid.uids.uids body ≡ Ok (record { step = x; added = added }))
    (spelled : body ≡ body_of mid.uids.uids x) (adds : added ≡ added_of mid.uids.uids x) where
  said_before : step_in old.uids.uids body ≡ Ok (record { step = x; added = added })
  said_before =
      subst (λ (us : List Text). step_in us body ≡ Ok (record { step = x; added = added })) same.uids said

  state_before : (new : Volume D) → meaning new.state ≡ after (meaning mid.state) x
      → meaning new.state ≡ after (meaning old.state) x
  state_before new state = state ∙ ap (λ (l : Lists). after (meaning_of l) x) same.lists

  uids_before : (new : Volume D) → new.uids.uids ≡ mid.uids.uids ++ added → new.uids.uids ≡ old.uids.uids ++ added
  uids_before new uids = uids ∙ ap (λ (us : List Text). us ++ added) same.uids

  needs_before : (new : Volume D) → new.uids.uids ≡ mid.uids.uids ++ added
      → new.journal.length + length new.staged ≡ mid.journal.length + length mid.staged + 5 + length body
      → NeedsBehind (volume_known tells known old) (volume_known tells known new) (x ∷ [])
  needs_before new uids longer =
      needs_more tells known old new x
      (longer ∙ (λ i. (same.journal i).length + length (same.staged i) + 5 + length (spelled i))
      ∙ ap (λ (us : List Text). old.journal.length + length old.staged + 5 + length (body_of us x)) same.uids)
      (uids ∙ ap (λ (us : List Text). mid.uids.uids ++ us) adds ∙ (λ i. same.uids i ++ added_of (same.uids i) x))

  -- ---- a commit

  module _ (is : IsOpenVolume tells known old) where
    -- what was said of the volume that was made ready is said of the old one
    run_before : (d : Devices) → LeavesOldOrOneMore body mid.side mid.journal (devices known mid) d
        → LeavesOldOrOneMore body old.side old.journal (devices known old) d
    run_before d run =
        subst (λ s. LeavesOldOrOneMore body s old.journal (devices known old) d) same.side
        (subst (λ (j : Extent). LeavesOldOrOneMore body mid.side j (devices known old) d) same.journal
        (subst (λ (e : Disks D). LeavesOldOrOneMore body mid.side mid.journal (disks_known known e) d) same.disks run))

    more_before : (journal : Extent) (files : Trio File)
        → StandsOneMore body mid.side mid.journal journal (devices known mid).files files
        → StandsOneMore body old.side old.journal journal (devices known old).files files
    more_before journal files more =
        subst (λ s. StandsOneMore body s old.journal journal (devices known old).files files) same.side
        (subst (λ (j : Extent). StandsOneMore body mid.side j journal (devices known old).files files) same.journal
        (subst (λ (e : Disks D). StandsOneMore body mid.side mid.journal journal (disks_known known e).files files)
        same.disks more))

    journal_is : mid.journal ≡ extended mid.journal mid.staged
    journal_is = sym (with_nothing mid.journal mid.staged (same.staged ∙ is.nothing))

    module _ (new : Volume D)
        (run : IsTrue tells → LeavesOldOrOneMore body mid.side mid.journal (devices known mid) (devices known new))
      where
        written_adds : (written : Bool) → IsTrue written
            → AddsOnly (volume_known tells known) (volume_crash tells known) old new
            (MayStand (stored_in (volume_known tells known old)) (Some x) written)
        written_adds written w =
            run_adds tells known old new (MayStand (stored_in (volume_known tells known old)) (Some x) written)
            (λ t. append_opens tells known old x body added said_before (is.keeps t) (devices known new) written w
            (run_before (devices known new) (run t)))

        written_leaves : IsTrue tells → LeavesOldOrMore (x ∷ []) (devices known old) (devices known new)
        written_leaves t =
            append_leaves tells known old x body added said_before (is.keeps t) (devices known new)
            (run_before (devices known new) (run t))

        -- the step was made
        pub committed : new.open ≡ mid.open → new.side ≡ mid.side → new.staged ≡ mid.staged
            → new.uids.uids ≡ mid.uids.uids ++ added → meaning new.state ≡ after (meaning mid.state) x
            → (IsTrue tells → StandsOneMore body mid.side mid.journal new.journal (devices known mid).files
            (devices known new).files)
            → new.journal.length ≡ mid.journal.length + 5 + length body → new.journal.limit ≡ mid.journal.limit
            → (IsFull mid.journal (length body) → ⊥)
            → (devices known mid).faults ≤ (devices known new).faults
            → (devices known new).made ≡ called 4 (devices known mid).made
            → (devices known new).made ≤ called 4 (devices known mid).made
            → Commits tells known old new x (Ok tt)
        committed ready side staged uids state more longer limit full later calls most = record {
          ok = (
            state_before new state,
            record {
              ready = ready ∙ same.opened ∙ is.ready;
              image = λ e. is.image (sym same.side ∙ sym side ∙ e);
              nothing = staged ∙ same.staged ∙ is.nothing;
              keeps = λ t.
                  append_keeps tells known old x body added said_before (is.keeps t) new
                  (more_before new.journal (devices known new).files (more t)) (side ∙ same.side)
                  (uids_before new uids) (state_before new state);
            },
          );
          need = needs_before new uids (omega (arith, longer, ap length staged));
          cause = tt;
          too_long = λ h. absurd (full (is_full tells known old mid same body x spelled mid.journal journal_is h));
          state = tt;
          left = tt;
          any_moment = written_adds true refl;
          limit = limit ∙ ap (λ (j : Extent). j.limit) same.journal;
          later = subst (λ (d : Disks D). (disks_known known d).faults ≤ (devices known new).faults) same.disks later;
          history = λ t. append_holds tells known old x body added said_before (is.keeps t) new
              (more_before new.journal (devices known new).files (more t));
          any_history = written_leaves;
          calls = calls ∙ ap (λ (d : Disks D). called 4 (disks_known known d).made) same.disks;
          most_calls = subst (λ (d : Disks D). (devices known new).made ≤ called 4 (disks_known known d).made)
              same.disks most;
          untouched = tt;
        }

        module _ (side : new.side ≡ mid.side) (staged : new.staged ≡ mid.staged) (uids : new.uids ≡ mid.uids)
            (state : new.state ≡ mid.state) (journal : new.journal ≡ mid.journal) where
          same_lists : lists_of new.state ≡ lists_of old.state
          same_lists = ap lists_of state ∙ same.lists

          same_limit : new.journal.limit ≡ old.journal.limit
          same_limit = ap (λ (j : Extent). j.limit) (journal ∙ same.journal)

          refused : new.open ≡ mid.open → new.disks ≡ turned mid.side mid.disks → IsQuiet known old new
          refused ready disks = record {
            disks = ap (disks_known known) disks ∙ ap (disks_known known) same.disks;
            side = side ∙ same.side;
            journal = journal ∙ same.journal;
            opened = ready ∙ same.opened;
            staged = staged ∙ same.staged;
            uids = ap (λ u. u.uids) uids ∙ same.uids;
            state = ap meaning_of same_lists;
          }

          -- the body was not added, or a disk failed
          pub left_off : (why : AppendFault) → new.open ≡ opened_behind why mid.open
              → (IsFull mid.journal (length body) → ◌≡◌ {A = Result (Unit {0}) AppendFault} (Err why)
              (Err (append.Full (need mid.journal (length body)) mid.journal.limit)))
              → ((n m : ℕ) → ◌≡◌ {A = Result (Unit {0}) AppendFault} (Err why) (Err (append.Full n m))
              → IsFull mid.journal (length body))
              → (◌≢◌ {A = Result (Unit {0}) AppendFault} (Err why) (Err append.Disk)
              → new.disks ≡ turned mid.side mid.disks)
              → (devices known new).made ≤ called 4 (devices known mid).made
              → HasCauseOf {T = Unit {0}} append.Disk (devices known mid).faults (devices known new).faults (Err why)
              → Commits tells known old new x (Err (fault_adding why))
          left_off (append.Full n m) ready full only untouched most cause =
              let why = full_cause tells known old mid same body x spelled mid.journal journal_is
              (Err (append.Full n m)) n m refl full only in
              quiet_commits tells known old new (refused ready (untouched (λ e. absurd (cc e)))) is x (commit.Full n m)
              refl same_limit (why.0, why.1, why.2) (λ h. inl (cc (why.0, why.1))) same_lists
          left_off append.Disk ready full only untouched most cause = record {
            ok = tt;
            need = tt;
            cause = subst (λ (d : Disks D). Rose (disks_known known d).faults (devices known new).faults) same.disks
                (cause.failed refl);
            too_long = λ h.
                absurd (cc (full (is_full tells known old mid same body x spelled mid.journal journal_is h)));
            state = same_lists;
            left = ready;
            any_moment = written_adds true refl;
            limit = same_limit;
            later = subst (λ (d : Disks D). (disks_known known d).faults ≤ (devices known new).faults) same.disks
                cause.later;
            history = λ t. tt;
            any_history = written_leaves;
            calls = tt;
            most_calls = subst (λ (d : Disks D). (devices known new).made ≤ called 4 (disks_known known d).made)
                same.disks most;
            untouched = λ other. absurd (other refl);
          }
          left_off append.Memory ready full only untouched most cause =
              quiet_commits tells known old new (refused ready (untouched (λ e. absurd (cc e)))) is x commit.Memory refl
              same_limit tt (λ h. inr refl) same_lists

  -- ---- a staging

  module _ (new : Volume D) (disks : new.disks ≡ mid.disks) (journal : new.journal ≡ mid.journal)
      (side : new.side ≡ mid.side) (ready : new.open ≡ mid.open) where
    same_devices : devices known new ≡ devices known old
    same_devices = ap (disks_known known) disks ∙ ap (disks_known known) same.disks

    -- the step was made
    pub taken : new.uids.uids ≡ mid.uids.uids ++ added → meaning new.state ≡ after (meaning mid.state) x
        → ((bodies : List (List ℕ)) → AreSpelled bodies mid.staged → AreSpelled (bodies ++ body ∷ []) new.staged)
        → length new.staged ≡ length mid.staged + 5 + length body
        → mid.journal.length + length new.staged ≤ mid.journal.limit
        → (IsFull (extended mid.journal mid.staged) (length body) → ⊥) → Takes tells known old new x (Ok tt)
    taken uids state behind longer within full =
        let spelled_before : (bodies : List (List ℕ)) → AreSpelled bodies old.staged
        → AreSpelled (bodies ++ body ∷ []) new.staged =
        λ bodies s. behind bodies (subst (AreSpelled bodies) (sym same.staged) s) in
        record {
          ok = state_before new state;
          need = needs_before new uids (omega (arith, longer, ap (λ (j : Extent). j.length) journal));
          stays = λ kept is. record {
            ready = ready ∙ same.opened ∙ is.ready;
            image = λ e. is.image (sym same.side ∙ sym side ∙ e);
            within = inr (subst (λ (j : Extent). j.length + length new.staged ≤ j.limit) (sym journal) within);
            keeps = λ t.
                keeps_more known old new x body added said_before same_devices (journal ∙ same.journal)
                (side ∙ same.side) (uids_before new uids) spelled_before kept (state_before new state) (is.keeps t);
          };
          cause = tt;
          no_disk = λ e. cc e;
          too_long = λ h. absurd (full
              (is_full tells known old mid same body x spelled (extended mid.journal mid.staged) refl h));
          state = tt;
          left = tt;
          any_moment = λ kept is.
              no_call_adds tells known old new (StandsAs (stored_as (volume_known tells known old) kept)) same_devices
              (λ t files images. opens_kept tells known old kept (is.keeps t) files images);
          limit = ap (λ (j : Extent). j.limit) (journal ∙ same.journal);
          untouched = same_devices;
          taken = λ t later s.
              stages_more known old new x body added said_before same_devices (journal ∙ same.journal)
              (side ∙ same.side) (uids_before new uids) spelled_before later s;
          refused = λ t. tt;
        }

    -- it was not
    pub not_taken : (why : AppendFault) → new.staged ≡ mid.staged → new.uids ≡ mid.uids → new.state ≡ mid.state
        → (IsFull (extended mid.journal mid.staged) (length body) → ◌≡◌ {A = Result (Unit {0}) AppendFault} (Err why)
        (Err (append.Full (need (extended mid.journal mid.staged) (length body)) mid.journal.limit)))
        → ((n m : ℕ) → ◌≡◌ {A = Result (Unit {0}) AppendFault} (Err why) (Err (append.Full n m))
        → IsFull (extended mid.journal mid.staged) (length body))
        → ◌≢◌ {A = Result (Unit {0}) AppendFault} (Err why) (Err append.Disk)
        → Takes tells known old new x (Err (fault_adding why))
    not_taken why staged uids state full only other =
        let lists = ap lists_of state ∙ same.lists in
        let quiet_ : IsQuiet known old new = record {
          disks = same_devices;
          side = side ∙ same.side;
          journal = journal ∙ same.journal;
          opened = ready ∙ same.opened;
          staged = staged ∙ same.staged;
          uids = ap (λ u. u.uids) uids ∙ same.uids;
          state = ap meaning_of lists;
        } in
        by_fault why quiet_ lists full only other
      where
        by_fault : (why : AppendFault) → IsQuiet known old new → lists_of new.state ≡ lists_of old.state
            → (IsFull (extended mid.journal mid.staged) (length body)
            → ◌≡◌ {A = Result (Unit {0}) AppendFault} (Err why)
            (Err (append.Full (need (extended mid.journal mid.staged) (length body)) mid.journal.limit)))
            → ((n m : ℕ) → ◌≡◌ {A = Result (Unit {0}) AppendFault} (Err why) (Err (append.Full n m))
            → IsFull (extended mid.journal mid.staged) (length body))
            → ◌≢◌ {A = Result (Unit {0}) AppendFault} (Err why) (Err append.Disk)
            → Takes tells known old new x (Err (fault_adding why))
        by_fault (append.Full n m) quiet_ lists full only other =
            let why = full_cause tells known old mid same body x spelled (extended mid.journal mid.staged) refl
            (Err (append.Full n m)) n m refl full only in
            quiet_takes tells known old new quiet_ x (commit.Full n m) (λ e. cc e)
            (ap (λ (j : Extent). j.limit) (journal ∙ same.journal)) (why.0, why.1, why.2)
            (λ h. inl (cc (why.0, why.1))) lists
        by_fault append.Disk quiet_ lists full only other = absurd (other refl)
        by_fault append.Memory quiet_ lists full only other =
            quiet_takes tells known old new quiet_ x commit.Memory (λ e. cc e)
            (ap (λ (j : Extent). j.limit) (journal ∙ same.journal)) tt (λ h. inr refl) lists
