-- What is decided here is what a receipt decides, under other names, and one case of serving.
use Rattle.std.proofs.Common.{◌≡◌, ℕ, true, false, if◌then◌else◌, List, [], ◌∷◌, ◌++◌, Ok, Err}
use Rattle.std.proofs.Common.{refl, sym, ap, subst, ◌∙◌}
use Rattle.std.specs.Prelude.{option_to_list}
use Rattle.u1_base.specs.Places.{Place}
use Rattle.translog.specs.Source.{passes}
use Rattle.vector_rev.specs.Counts.{Uid}
use Rattle.conflicts.specs.State.{State, after_all}
use Rattle.conflicts.specs.Writing.{Answers, Refuses, kept_place, move_step, take_step}
use Rattle.conflicts.specs.declared.moves.Move.{Move}
use Rattle.conflicts.specs.declared.receipts.Taken.{Taken}
use Rattle.replica_core.specs.Replica.{Found, Known, Stored, state_in}
use Rattle.replica_core.specs.Calls.{IsDone}
use Rattle.replica_core.specs.Staging.{Stages}
use Rattle.replica_core.specs.CallsDecide.{move_decides, take_decides}
use Rattle.replica_core.specs.CallsFaults.{take_failure}
use Rattle.replica_core.specs.declared.calls.receipts.TakeFault.{TakeFault}
use Rattle.replica_core.specs.declared.calls.receipts.TakeFault.TheVariants as take
use Rattle.sync_stream.specs.Came.{Ending}
use Rattle.sync_stream.specs.Replies.{Keeps, LogCheck}
use Rattle.sync_stream.specs.Serving.{Held, exchanged, held_after, passing, refused, taken_of}
use Rattle.sync_stream.specs.declared.line.SyncDoc.{SyncDoc}
use Rattle.sync_exchange.specs.Decide.{apply_decides, tell_decides, told_move}
use Rattle.sync_exchange.specs.Faults.{exchange_failure, exchange_fault, goes_back}
use Rattle.sync_exchange.specs.Laws.{CasesOfServing, passed_by, told_by}
use Rattle.sync_exchange.proofs.Renamed.{done_err, renamed, staged_err, staged_ok}

-- ---- faults

pub same_failure : (fault : TakeFault) → exchange_failure (exchange_fault fault) ≡ take_failure fault
same_failure (take.LogCheck mine theirs) = refl
same_failure (take.Full need limit) = refl
same_failure take.Disk = refl
same_failure take.Memory = refl

-- ---- decisions

pub told_is : (source : Uid) (at : Place) (s : State)
    → tell_decides source at s ≡ renamed (λ u. u) exchange_fault (move_decides (told_move source at) s)
told_is source at s =
    let m = told_move source at in
    elim (passes (kept_place s m) at) as (λ b. (if b then Answers (tt {0}) (move_step s m)
    else Refuses (goes_back (kept_place s m) at))
    ≡ renamed (λ u. u) exchange_fault (if b then Answers (tt {0}) (move_step s m)
    else Refuses (take.LogCheck (kept_place s m) at))) [ true ↦ refl | false ↦ refl ]

pub applied_is : (seed : ℕ) (source : Uid) (doc : SyncDoc) (s : State)
    → apply_decides seed source doc s
    ≡ renamed (λ (t : Taken). t.outcome) exchange_fault
    (take_decides seed doc.id doc.member false (told_move source doc.at) s)
applied_is seed source doc s =
    let m = told_move source doc.at in
    let taken = taken_of s doc false in
    let step = take_step seed doc.id m s taken.accepted in
    elim (passes (kept_place s m) doc.at) as (λ b. (if b then Answers taken.outcome step
    else Refuses (goes_back (kept_place s m) doc.at))
    ≡ renamed (λ (t : Taken). t.outcome) exchange_fault (if b then Answers taken step
    else Refuses (take.LogCheck (kept_place s m) doc.at))) [ true ↦ refl | false ↦ refl ]

-- ---- calls

module _ {R : Type 0} (known : R → Known) (is_open : R → Type 0) (crash : R → ℕ → Found Stored → Type 0) where
  pub told_err : (source : Uid) (at : Place) (m : Move) (old new : R) (fault : TakeFault) → m ≡ told_move source at
      → IsDone known is_open crash take_failure (move_decides m (state_in (known old))) old new (Err fault)
      → IsDone known is_open crash exchange_failure (tell_decides source at (state_in (known old))) old new
      (Err (exchange_fault fault))
  told_err source at m old new fault is done =
      subst (λ d. IsDone known is_open crash exchange_failure d old new (Err (exchange_fault fault)))
      (ap (λ (x : Move). renamed (λ u. u) exchange_fault (move_decides x (state_in (known old)))) is
      ∙ sym (told_is source at (state_in (known old))))
      (done_err (λ u. u) exchange_fault known is_open crash take_failure exchange_failure same_failure old new
      (move_decides m (state_in (known old))) fault done)

module _ {R : Type 0} (known : R → Known) (stages : R → State → Type 0) (crash : R → ℕ → Found Stored → Type 0) where
  -- a receipt with this move is what is decided here
  is_applied : (seed : ℕ) (source : Uid) (doc : SyncDoc) (m : Move) (s : State) → m ≡ told_move source doc.at
      → renamed (λ (t : Taken). t.outcome) exchange_fault (take_decides seed doc.id doc.member false m s)
      ≡ apply_decides seed source doc s
  is_applied seed source doc m s is =
      ap (λ (x : Move). renamed (λ (t : Taken). t.outcome) exchange_fault
      (take_decides seed doc.id doc.member false x s)) is
      ∙ sym (applied_is seed source doc s)

  pub applied_ok : (seed : ℕ) (source : Uid) (doc : SyncDoc) (m : Move) (old new : R) (taken : Taken)
      → m ≡ told_move source doc.at
      → Stages known stages crash take_failure
      (take_decides seed doc.id doc.member false m (state_in (known old))) old new (Ok taken)
      → Stages known stages crash exchange_failure (apply_decides seed source doc (state_in (known old))) old new
      (Ok taken.outcome)
  applied_ok seed source doc m old new taken is staged =
      subst (λ d. Stages known stages crash exchange_failure d old new (Ok taken.outcome))
      (is_applied seed source doc m (state_in (known old)) is)
      (staged_ok (λ (t : Taken). t.outcome) exchange_fault known stages crash take_failure exchange_failure same_failure
      old new (take_decides seed doc.id doc.member false m (state_in (known old))) taken staged)

  pub applied_err : (seed : ℕ) (source : Uid) (doc : SyncDoc) (m : Move) (old new : R) (fault : TakeFault)
      → m ≡ told_move source doc.at
      → Stages known stages crash take_failure
      (take_decides seed doc.id doc.member false m (state_in (known old))) old new (Err fault)
      → Stages known stages crash exchange_failure (apply_decides seed source doc (state_in (known old))) old new
      (Err (exchange_fault fault))
  applied_err seed source doc m old new fault is staged =
      subst (λ d. Stages known stages crash exchange_failure d old new (Err (exchange_fault fault)))
      (is_applied seed source doc m (state_in (known old)) is)
      (staged_err (λ (t : Taken). t.outcome) exchange_fault known stages crash take_failure exchange_failure same_failure
      old new (take_decides seed doc.id doc.member false m (state_in (known old))) fault staged)

-- ---- cases of serving

tells : (s : State) (source : Uid) (at : Place)
    → (if passes (kept_place s (told_move source at)) at
    then (record { reply = Keeps; steps = option_to_list (move_step s (told_move source at)); passed = [] })
    else refused LogCheck) ≡ told_by (tell_decides source at s)
tells s source at =
    let m = told_move source at in
    elim (passes (kept_place s m) at) as (λ b. (if b
    then (record { reply = Keeps; steps = option_to_list (move_step s m); passed = [] }) else refused LogCheck)
    ≡ told_by (if b then Answers (tt {0}) (move_step s m) else Refuses (goes_back (kept_place s m) at))) [
      | true ↦ refl
      | false ↦ refl
    ]

applies : (s : State) (seed : ℕ) (source : Uid) (known : Place) (held : List Held) (doc : SyncDoc)
    (docs : List SyncDoc) (ending : Ending)
    → exchanged s seed source known held (doc ∷ docs) ending
    ≡ passed_by s doc.id (λ now more. exchanged now seed source known (held ++ more) docs ending)
    (apply_decides seed source doc s)
applies s seed source known held doc docs ending =
    let m = told_move source doc.at in
    let taken = taken_of s doc false in
    let step = take_step seed doc.id m s taken.accepted in
    let now = after_all s (option_to_list step) in
    elim (passes (kept_place s m) doc.at) as (λ b. (if b
    then passing (option_to_list step)
    (exchanged now seed source known (held ++ held_after taken.outcome doc.id now) docs ending)
    else refused LogCheck)
    ≡ passed_by s doc.id (λ now more. exchanged now seed source known (held ++ more) docs ending)
    (if b then Answers taken.outcome step else Refuses (goes_back (kept_place s m) doc.at))) [
      | true ↦ refl
      | false ↦ refl
    ]

pub cases : CasesOfServing
cases = record {
  info = λ s seed source. refl;
  tell = λ s seed source at. tells s source at;
  fits = λ s seed source known docs ending e. ap (λ b. if b then exchanged s seed source known [] docs ending
      else refused LogCheck) e;
  misfit = λ s seed source known docs ending e. ap (λ b. if b then exchanged s seed source known [] docs ending
      else refused LogCheck) e;
  document = applies;
  returns = λ s known held. refl;
}
