-- What a replica does by itself, wherever its session stands, is good for every other replica.
use Rattle.std.specs.Prelude.{◌≡◌, ◌≢◌, ℕ, ◌+◌, true, false, if◌then◌else◌, List, [], ◌∷◌, ◌++◌, length}
use Rattle.std.specs.Prelude.{option_to_list, Option, Some, None, IfSome, Result, Ok, Err, refl}
use Rattle.translog.specs.Log.{end_of}
use Rattle.translog.specs.Source.{passes}
use Rattle.vector_rev.specs.Counts.{Uid}
use Rattle.conflicts.specs.Making.{deleted, edited, resolved}
use Rattle.conflicts.specs.State.{State, Step, Text, after, after_all, move_of}
use Rattle.conflicts.specs.Writing.{Answers, Refuses, accept_made, create_over, delete_over, kept_place, move_step}
use Rattle.conflicts.specs.Writing.{same_exprs, step_in, take_answers, take_step}
use Rattle.conflicts.specs.declared.accept.Accept.{Accept}
use Rattle.sync_stream.specs.Requests.{Question, ToKeep}
use Rattle.sync_stream.specs.Serving.{taken_of}
use Rattle.sync_phases.specs.Phases.{count_of, has_all, known_to}
use Rattle.sync_phases.specs.declared.fault.SyncFault.TheVariants.{LogCheck}
use Rattle.sync_places.specs.inner.Facts.{AllDocuments}
use Rattle.sync_places.proofs.Laters.{later_itself}
use Rattle.sync_world.specs.Source.{Session, Idle, AwaitsInfo, HasInfo, AwaitsReturned, Taking, Settled, AwaitsKept}
use Rattle.sync_world.specs.Source.{Complete, asks, finish_turn, finishes_by, goes, makes, posts, send_turn}
use Rattle.sync_world.specs.Source.{settle_turn, settles_by, take_turn, takes_by, unless_fault}
use Rattle.sync_world.specs.World.{World, Command, Put, Delete, Resolve, CreateIndex, DeleteIndex, command_step}
use Rattle.sync_world.proofs.Turns.{by_info_is}
use Rattle.world_laws.proofs.Becoming.{Becomes}
use Rattle.world_laws.proofs.Kept.{session-later, still_sent}
use Rattle.world_laws.proofs.PairFacts.{PlacedOver, QuestionOk, SessionAt, States}
use Rattle.world_laws.proofs.Turning.{TurnAt, finished_at, posts_at, settled_at, stays, taken_at, writes}

-- ---- a call that writes moves no place

made_unmoved : {E F : Type 0} (refusal : E → F) (seed : ℕ) (s : State) (doc : Text) (r : Result Accept E)
    → IfSome (step_in (accept_made refusal seed s doc r)) (λ x. move_of x ≡ None)
made_unmoved refusal seed s doc (Ok a) = refl
made_unmoved refusal seed s doc (Err fault) = tt

created_unmoved : (index : Text) (exprs : List Text) (kept : Option (List Text))
    → IfSome (step_in (create_over {F = Unit {0}} tt index exprs kept)) (λ x. move_of x ≡ None)
created_unmoved index exprs None = refl
created_unmoved index exprs (Some kept) =
    elim (same_exprs kept exprs) as
    (λ b. IfSome (step_in {A = Unit {0}} {F = Unit {0}} (if b then Answers tt None else Refuses tt))
    (λ x. move_of x ≡ None)) [
      | true ↦ tt
      | false ↦ tt
    ]

dropped_unmoved : (index : Text) (kept : Option (List Text))
    → IfSome (step_in (delete_over {F = Unit {0}} tt index kept)) (λ x. move_of x ≡ None)
dropped_unmoved index None = tt
dropped_unmoved index (Some kept) = refl

pub command_unmoved : (s : State) (seed : ℕ) (command : Command)
    → IfSome (command_step s seed command) (λ x. move_of x ≡ None)
command_unmoved s seed (Put doc rev content) =
    made_unmoved (λ fault. fault) seed s doc (edited (s.document doc) rev content s.uid)
command_unmoved s seed (Delete doc rev) =
    made_unmoved (λ fault. fault) seed s doc (deleted (s.document doc) rev s.uid)
command_unmoved s seed (Resolve doc named content) =
    made_unmoved (λ fault. fault) seed s doc (resolved (s.document doc) named content s.uid)
command_unmoved s seed (CreateIndex index exprs) = created_unmoved index exprs (s.index index)
command_unmoved s seed (DeleteIndex index) = dropped_unmoved index (s.index index)

-- ---- the forms of a turn

module _ (s : States) (w : World) (p : PlacedOver s w) (u : Uid) where
  -- no request is sent, and the replica may become another one
  stays_at : (t : State) → Becomes s u t → (session : Session) → SessionAt (s u) s w.sent u session
      → SessionAt t s (w.sent ++ []) u session
  stays_at t b session h =
      session-later u (s u) t s s b.later (λ v. later_itself (s v)) w.sent (w.sent ++ []) (still_sent w.sent [])
      session h

  pub goes_at : (session : Session) → SessionAt (s u) s w.sent u session → TurnAt s w.sent u (goes session)
  goes_at session h = record {
    becomes = stays s w p u;
    session = stays_at (s u) (stays s w p u) session h;
    sends = tt;
  }

  pub asks_at : (session : Session) (v : Uid) (q : Question) → u ≢ v → QuestionOk u v (s u) (s v) q
      → SessionAt (s u) s (w.sent ++ record { source = u; target = v; question = q } ∷ []) u session
      → TurnAt s w.sent u (asks session v q)
  asks_at session v q apart ok h = record { becomes = stays s w p u; session = h; sends = (apart, ok) }

  makes_at : (step : Option Step) (session : Session)
      → Becomes s u (after_all (s u) (option_to_list step))
      × SessionAt (after_all (s u) (option_to_list step)) s (w.sent ++ []) u session
      → TurnAt s w.sent u (makes step session)
  makes_at step session h = record { becomes = h.0; session = h.1; sends = tt }

  -- a step without a move
  pub writes_at : (step : Option Step) → IfSome step (λ x. move_of x ≡ None) → (session : Session)
      → SessionAt (s u) s w.sent u session → TurnAt s w.sent u (makes step session)
  writes_at None unmoved session h =
      makes_at None session (stays s w p u, stays_at (s u) (stays s w p u) session h)
  writes_at (Some x) unmoved session h =
      let b = writes s w p u x unmoved in
      makes_at (Some x) session (b, stays_at (after (s u) x) b session h)

  -- ---- by where the session stands

  module _ (documents : AllDocuments (s u)) where
    pub send_at : (session : Session) → SessionAt (s u) s w.sent u session
        → TurnAt s w.sent u (send_turn (s u) (length w.sent) session)
    send_at Idle h = goes_at Idle h
    send_at (AwaitsInfo m) h = goes_at (AwaitsInfo m) h
    send_at (HasInfo info) h =
        by_info_is (λ result. TurnAt s w.sent u (unless_fault result)) (s u) info (goes (Complete info.target))
        (posts (s u) (length w.sent) info) (λ _. goes_at (Complete info.target) tt) (posts_at s w p u documents info h)
        (λ fault. goes_at Idle tt)
    send_at (AwaitsReturned v base m) h = goes_at (AwaitsReturned v base m) h
    send_at (Taking v base taken docs top) h = goes_at (Taking v base taken docs top) h
    send_at (Settled v base taken) h = goes_at (Settled v base taken) h
    send_at (AwaitsKept v m) h = goes_at (AwaitsKept v m) h
    send_at (Complete v) h = goes_at (Complete v) h

    pub take_at : (seed : ℕ) (session : Session) → SessionAt (s u) s w.sent u session
        → TurnAt s w.sent u (take_turn (s u) seed session)
    take_at seed Idle h = goes_at Idle h
    take_at seed (AwaitsInfo m) h = goes_at (AwaitsInfo m) h
    take_at seed (HasInfo info) h = goes_at (HasInfo info) h
    take_at seed (AwaitsReturned v base m) h = goes_at (AwaitsReturned v base m) h
    take_at seed (Taking v base taken [] top) h = goes_at (Taking v base taken [] top) h
    take_at seed (Taking v base taken (doc ∷ docs) top) h =
        let move = known_to v doc.at in
        elim (passes (kept_place (s u) move) doc.at) as
        (λ b. passes (kept_place (s u) move) doc.at ≡ b → TurnAt s w.sent u (takes_by v base taken docs top
        (if b then take_answers seed doc.id move (s u) (taken_of (s u) doc true)
        else Refuses (LogCheck (kept_place (s u) move) doc.at)))) [
          | true ↦ λ ok.
              makes_at (take_step seed doc.id move (s u) (taken_of (s u) doc true).accepted)
              (Taking v base (taken + count_of (taken_of (s u) doc true)) docs top)
              (taken_at s w p u documents seed v base taken doc docs top h.0 h.1 ok (w.sent ++ []))
          | false ↦ λ _. goes_at Idle tt
        ] refl
    take_at seed (Settled v base taken) h = goes_at (Settled v base taken) h
    take_at seed (AwaitsKept v m) h = goes_at (AwaitsKept v m) h
    take_at seed (Complete v) h = goes_at (Complete v) h

  pub settle_at : (session : Session) → SessionAt (s u) s w.sent u session
      → TurnAt s w.sent u (settle_turn (s u) session)
  settle_at Idle h = goes_at Idle h
  settle_at (AwaitsInfo m) h = goes_at (AwaitsInfo m) h
  settle_at (HasInfo info) h = goes_at (HasInfo info) h
  settle_at (AwaitsReturned v base m) h = goes_at (AwaitsReturned v base m) h
  settle_at (Taking v base taken [] top) h =
      let move = known_to v top in
      elim (passes (kept_place (s u) move) top) as
      (λ b. passes (kept_place (s u) move) top ≡ b → TurnAt s w.sent u (settles_by v base taken
      (if b then Answers tt (move_step (s u) move) else Refuses (LogCheck (kept_place (s u) move) top)))) [
        | true ↦ λ ok.
            makes_at (move_step (s u) move) (Settled v base taken)
            (settled_at s w p u v base taken top h.0 h.1 ok (w.sent ++ []))
        | false ↦ λ _. goes_at Idle tt
      ] refl
  settle_at (Taking v base taken (doc ∷ docs) top) h = goes_at (Taking v base taken (doc ∷ docs) top) h
  settle_at (Settled v base taken) h = goes_at (Settled v base taken) h
  settle_at (AwaitsKept v m) h = goes_at (AwaitsKept v m) h
  settle_at (Complete v) h = goes_at (Complete v) h

  pub finish_at : (session : Session) → SessionAt (s u) s w.sent u session
      → TurnAt s w.sent u (finish_turn (s u) (length w.sent) session)
  finish_at Idle h = goes_at Idle h
  finish_at (AwaitsInfo m) h = goes_at (AwaitsInfo m) h
  finish_at (HasInfo info) h = goes_at (HasInfo info) h
  finish_at (AwaitsReturned v base m) h = goes_at (AwaitsReturned v base m) h
  finish_at (Taking v base taken docs top) h = goes_at (Taking v base taken docs top) h
  finish_at (Settled v base taken) h =
      elim (has_all (s u) base taken) as
      (λ b. has_all (s u) base taken ≡ b → TurnAt s w.sent u (finishes_by (length w.sent) v
      (if b then Some (ToKeep (end_of (s u).log)) else None))) [
        | true ↦ λ all.
            asks_at (AwaitsKept v (length w.sent)) v (ToKeep (end_of (s u).log)) h.apart
            (finished_at s w p u v base taken h all) tt
        | false ↦ λ _. goes_at (Complete v) tt
      ] refl
  finish_at (AwaitsKept v m) h = goes_at (AwaitsKept v m) h
  finish_at (Complete v) h = goes_at (Complete v) h
