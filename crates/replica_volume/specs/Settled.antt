-- A crash of a volume now leaves just what it keeps.
use Rattle.std.specs.Prelude.{◌≡◌, ℕ, Bool, IsTrue, if◌then◌else◌, List, [], length, Result, Ok}
use Rattle.std.proofs.Common.{inl, sym, ap, subst, ◌∙◌}
use Rattle.std.proofs.lemmas.List.{append-nil}
use Rattle.conflicts.specs.State.{History, State, Text}
use Rattle.disk_model.specs.Device.{Device}
use Rattle.disks.specs.declared.trio.Trio.{Trio}
use Rattle.disks.specs.Joint.{AreCrashImages, Devices, JointMoment, moment_at, now_of}
use Rattle.disks.proofs.Runs.{last_moment}
use Rattle.journal.specs.Image.{Head}
use Rattle.replica_state.specs.Held.{meaning}
use Rattle.volume.specs.Store.{FoundImages, IsStore}
use Rattle.volume.proofs.Standing.{store_stands}
use Rattle.replica_core.specs.Replica.{Found, Stored, stored_as, stored_in}
use Rattle.replica_core.specs.Replica.Found.{Stands}
use Rattle.replica_volume.specs.Steps.{Chronicle, state_at, steps_of}
use Rattle.replica_volume.specs.Store.{holds_steps, opened_as, opens_as, stored_at, with_steps}
use Rattle.replica_volume.specs.Staging.{IsStagedVolume, KeepsStaged}
use Rattle.replica_volume.specs.Volume.{IsOpenVolume, KeepsHistory, devices, moments, volume_crash, volume_known}
use Rattle.replica_volume.specs.declared.replica.Volume.{Volume}

-- the last moment is now
pub now_at : (tells : Bool) (d : Devices) → IsTrue tells → moment_at d (moments tells d) ≡ now_of d.files
now_at tells d t = ap (λ (b : Bool). moment_at d (if b then length d.past else 0)) t ∙ last_moment d

-- three images after a crash now open as the history that the bodies on the disks say
pub opens_its_history : {D : Type 0} (known : D → Device) (v : Volume D) (head : Head) (bodies : List (List ℕ))
    (h : History) (uids : List Text) → IsStore v.journal v.side 2 head bodies (devices known v).files
    → steps_of 2 head bodies ≡ Ok (record { steps = h; uids = uids })
    → (files : Trio (List ℕ)) → AreCrashImages (now_of (devices known v).files) files
    → opens_as files ≡ Stands (stored_at head h)
opens_its_history known v head bodies h uids stands said files images =
    ap (λ (f : FoundImages). opened_as (with_steps f))
    ((store_stands v.journal v.side 2 head bodies (devices known v).files stands).left files images)
    ∙ ap (λ (r : Result Chronicle ℕ). opened_as (holds_steps v.side 2 head r)) said

-- under the limit of the journal
pub stored_is : (s t : State) (limit journal_limit : ℕ) → t ≡ s → journal_limit ≡ limit
    → ◌≡◌ {A = Stored} (record { state = s; limit = limit }) (record { state = t; limit = journal_limit })
stored_is s t limit journal_limit same is = λ i. record { state = sym same i; limit = sym is i }

-- as the state
pub opens_its_state : {D : Type 0} (tells : Bool) (known : D → Device) (v : Volume D)
    → KeepsHistory v (devices known v).files → (files : Trio (List ℕ))
    → AreCrashImages (now_of (devices known v).files) files
    → opens_as files ≡ Stands (stored_in (volume_known tells known v))
opens_its_state tells known v k files images =
    opens_its_history known v k.head k.bodies k.history v.uids.uids k.stands k.says files images
    ∙ ap Stands (stored_is (state_at k.head k.history) (meaning v.state) k.head.limit v.journal.limit k.leaves
    k.stands.image.extent.limit)

-- or as the kept state
pub opens_kept : {D : Type 0} (tells : Bool) (known : D → Device) (v : Volume D) (kept : State)
    → KeepsStaged v (devices known v).files kept → (files : Trio (List ℕ))
    → AreCrashImages (now_of (devices known v).files) files
    → opens_as files ≡ Stands (stored_as (volume_known tells known v) kept)
opens_kept tells known v kept k files images =
    let s = k.steps in
    opens_its_history known v s.head s.bodies s.history s.uids s.stands s.said files images
    ∙ ap Stands (stored_is (state_at s.head s.history) kept s.head.limit v.journal.limit k.was
    s.stands.image.extent.limit)

-- ---- what the trait asks for

pub leaves_its_state : {D : Type 0} (tells : Bool) (known : D → Device) (v : Volume D) (o : Found Stored)
    → IsOpenVolume tells known v → volume_crash tells known v (moments tells (devices known v)) o
    → o ≡ Stands (stored_in (volume_known tells known v))
leaves_its_state tells known v o is crash =
    let t = crash.0 in let files = crash.1.0 in
    crash.1.2 ∙ opens_its_state tells known v (is.keeps t) files
    (subst (λ (m : JointMoment). AreCrashImages m files) (now_at tells (devices known v) t) crash.1.1)

pub leaves_kept : {D : Type 0} (tells : Bool) (known : D → Device) (v : Volume D) (kept : State) (o : Found Stored)
    → IsStagedVolume tells known v kept → volume_crash tells known v (moments tells (devices known v)) o
    → o ≡ Stands (stored_as (volume_known tells known v) kept)
leaves_kept tells known v kept o is crash =
    let t = crash.0 in let files = crash.1.0 in
    crash.1.2 ∙ opens_kept tells known v kept (is.keeps t) files
    (subst (λ (m : JointMoment). AreCrashImages m files) (now_at tells (devices known v) t) crash.1.1)

-- an open volume keeps its own state
pub nothing_staged : {D : Type 0} (tells : Bool) (known : D → Device) (v : Volume D)
    → IsOpenVolume tells known v → IsStagedVolume tells known v (meaning v.state)
nothing_staged tells known v is = record {
  ready = is.ready;
  image = is.image;
  within = inl is.nothing;
  keeps = λ t.
      let k = is.keeps t in record {
        later = [];
        steps = record {
          head = k.head;
          bodies = k.bodies;
          more = [];
          history = k.history;
          uids = v.uids.uids;
          stands = k.stands;
          spelled = record { fit = tt; is = is.nothing };
          said = k.says;
          says = ap (steps_of 2 k.head) (append-nil k.bodies) ∙ k.says
              ∙ ap (λ (h : History). Ok (record { steps = h; uids = v.uids.uids })) (sym (append-nil k.history));
        };
        was = k.leaves;
        leaves = k.leaves ∙ ap (state_at k.head) (sym (append-nil k.history));
      };
}
