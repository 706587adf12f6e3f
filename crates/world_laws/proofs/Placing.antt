-- Each step of a world keeps what holds of places, and so does every list of steps.
use Rattle.std.specs.Prelude.{◌≡◌, ◌≢◌, ℕ, true, false, cond, List, [], ◌∷◌, ◌++◌, length, Option, Some, None}
use Rattle.std.specs.Prelude.{IfSome, refl}
use Rattle.std.specs.List.{slice_get}
use Rattle.std.proofs.Common.{sym, ◌∙◌, ap, subst, inl, inr, append-nil}
use Rattle.u1_base.specs.Ids.{same_id}
use Rattle.u1_base.specs.Places.{Place}
use Rattle.u1_base.proofs.SameIds.{is_same_id, same_id_is}
use Rattle.vector_rev.specs.Counts.{Uid}
use Rattle.conflicts.specs.Lists.{In}
use Rattle.conflicts.specs.State.{State, Step, Text, after, position_kept, state_of}
use Rattle.conflicts.specs.State as state_words
use Rattle.conflicts.specs.declared.moves.PosTable.TheVariants.{Known, Told}
use Rattle.conflicts.proofs.Apart.{In-get}
use Rattle.conflicts.proofs.States.{goes_on}
use Rattle.sync_stream.specs.Messages.{Asks}
use Rattle.sync_stream.specs.Replies as reply
use Rattle.sync_stream.specs.Requests.{Question, ForInfo, purpose_of}
use Rattle.sync_stream.specs.Serving.{serve}
use Rattle.sync_places.specs.inner.Facts.{AllDocuments, KnownUpTo, Later, ToldUpTo}
use Rattle.sync_places.proofs.Growing.{known-later, told_up-later}
use Rattle.sync_places.proofs.Laters.{later_itself}
use Rattle.sync_world.specs.Source.{Session, Idle, AwaitsInfo, Letter, Turn, asks, goes, hears, makes}
use Rattle.sync_world.specs.World.{World, WorldStep, Sent, Serving, Replica, Local, Ask, Reach, Apply, Reply, Send}
use Rattle.sync_world.specs.World.{Take, Settle, Finish, BreakSession, BreakServing, Stop, after_all, applied, applies}
use Rattle.sync_world.specs.World.{ask_turn, command_step, delivered, histories, posted, reached, replied, replies}
use Rattle.sync_world.specs.World.{start, state, turned, with_replica, without_serving}
use Rattle.sync_world.specs.World as world
use Rattle.world_laws.proofs.PairFacts.{PlacedOver, QuestionOk, ReplyOk, SentOk, Serves, ServingOk, SessionAt}
use Rattle.world_laws.proofs.PairFacts.{States, StepOk}
use Rattle.world_laws.proofs.Kept.{question-later, serves-later, session-later, still_sent}
use Rattle.world_laws.proofs.Becoming.{Becomes, Placed, changed, changed_own, grows, moved, placed_then, state_then}
use Rattle.world_laws.proofs.Becoming.{still}
use Rattle.world_laws.proofs.Serving.{documents_of, serve_ok}
use Rattle.world_laws.proofs.Turning.{TurnAt, stays}
use Rattle.world_laws.proofs.Phases.{asks_at, command_unmoved, finish_at, goes_at, send_at, settle_at, take_at}
use Rattle.world_laws.proofs.Phases.{writes_at}
use Rattle.world_laws.proofs.Hearing.{hears_ok}

-- ---- a replica becomes another one

module _ (s : States) (w : World) (p : PlacedOver s w) (z : Uid) (t : State) (b : Becomes s z t) where
  own : Later t (changed s z t z)
  own = subst (λ (y : State). Later t y) (sym (changed_own s z t)) (later_itself t)

  -- its session, over the states after it
  session_then : (sent more : List Sent) → ((n : ℕ) (r : Sent) → slice_get sent n ≡ Some r → slice_get more n ≡ Some r)
      → (session : Session) → SessionAt t s sent z session
      → SessionAt (changed s z t z) (changed s z t) more z session
  session_then sent more keeps session h =
      session-later z t (changed s z t z) s (changed s z t) own (grows s w p z t b) sent more keeps session h

  -- and what it asks
  posted_then : (sends : Option Letter)
      → IfSome sends (λ letter. (z ≢ letter.target)
      × QuestionOk z letter.target t (s letter.target) letter.question)
      → (l : Sent) → In l (posted z sends) → SentOk (changed s z t) l
  posted_then None h l i = absurd i
  posted_then (Some letter) h l (inr i) = absurd i
  posted_then (Some letter) h l (inl e) = subst (SentOk (changed s z t)) (sym e) (
    h.0,
    question-later z letter.target t (s letter.target) (changed s z t z) (changed s z t letter.target) own
        (grows s w p z t b letter.target) letter.question h.1,
  )

-- a step of a serving
module _ (s : States) (w : World) (p : PlacedOver s w) (v u : Uid) (x : Step) (q : Question)
    (k : StepOk u (s u) (s v) q x) where
  told_then : (z : Uid) → ToldUpTo (s z) (s v) (position_kept (s v) Told z)
      → ToldUpTo (s z) (after (s v) x) (position_kept (after (s v) x) Told z)
  told_then z h =
      elim (same_id z u) as
      (λ b. same_id z u ≡ b → ToldUpTo (s z) (after (s v) x) (position_kept (after (s v) x) Told z)) [
        | true ↦ λ e.
            subst (λ (y : Uid). ToldUpTo (s y) (after (s v) x) (position_kept (after (s v) x) Told y))
            (sym (same_id_is z u e)) k.told
        | false ↦ λ f.
            subst (λ (q : Place). ToldUpTo (s z) (after (s v) x) q) (sym (k.others Told z f))
            (told_up-later (s z) (s v) (s z) (after (s v) x) (later_itself (s z)) k.later
            (position_kept (s v) Told z) h)
      ] refl

  serves_becomes : Becomes s v (after (s v) x)
  serves_becomes = record {
    later = k.later;
    known = λ z apart.
        subst (λ (q : Place). KnownUpTo (after (s v) x) (s z) q) (sym (k.others Known z refl))
        (known-later (s v) (s z) (after (s v) x) (s z) k.later (later_itself (s z)) (position_kept (s v) Known z)
        (p.pairs v z apart).known);
    told = λ z apart. told_then z (p.pairs z v apart).told;
  }

-- ---- each step

-- a replica of the same history
replaced : (w : World) → Placed w → (z : Uid) (r : Replica) → r.history ≡ histories w z
    → SessionAt (state w z) (state w) w.sent z r.session → IfSome r.serving (ServingOk (state w) w.sent z)
    → Placed (with_replica w z r [])
replaced w p z r is session serving =
    let s : States = state w in
    placed_then w z (s z) r [] (ap (state_of w.name z) (sym is))
    (moved s w p z (s z) (stays s w p z) r [] (λ l i. absurd i)
    (subst (λ (f : States). SessionAt (f z) f (w.sent ++ []) z r.session) (still s z)
    (subst (λ (xs : List Sent). SessionAt (s z) s xs z r.session) (sym (append-nil w.sent)) session))
    (subst (λ (f : States). IfSome r.serving (ServingOk f (w.sent ++ []) z)) (still s z)
    (subst (λ (xs : List Sent). IfSome r.serving (ServingOk s xs z)) (sym (append-nil w.sent)) serving)))

module _ (w : World) (p : Placed w) where
  turned_at : (u : Uid) (turn : Turn) → TurnAt (state w) w.sent u turn → (serving : Option Serving)
      → Placed (turned w u turn serving)
  turned_at u turn h (Some serving) = p
  turned_at u turn h None =
      let s : States = state w in
      let t : State = state_words.after_all (s u) turn.steps in
      let r : Replica = record { history = histories w u ++ turn.steps; session = turn.session; serving = None } in
      let letters : List Sent = posted u turn.sends in
      placed_then w u t r letters (sym (goes_on.steps w.name u (histories w u) turn.steps))
      (moved s w p u t h.becomes r letters (posted_then s w p u t h.becomes turn.sends h.sends)
      (session_then s w p u t h.becomes (w.sent ++ letters) (w.sent ++ letters) (λ n l e. e) turn.session h.session)
      tt)

  ask_at : (u v : Uid) → TurnAt (state w) w.sent u (ask_turn w u v)
  ask_at u v =
      elim (same_id v u) as
      (λ b. same_id v u ≡ b → TurnAt (state w) w.sent u
      (cond b (goes (w.replica u).session) (asks (AwaitsInfo (length w.sent)) v ForInfo))) [
        | true ↦ λ _. goes_at (state w) w p u (w.replica u).session (p.session u)
        | false ↦ λ f. asks_at (state w) w p u (AwaitsInfo (length w.sent)) v ForInfo (apart f) tt tt
      ] refl
    where
      apart : same_id v u ≡ false → u ≢ v
      apart f e = true_false (sym (is_same_id v u (sym e)) ∙ f)
        where
          true_false : true ≡ false → ⊥
          true_false e = cc

  reached_at : (v : Uid) (n seed : ℕ) (serving : Option Serving) (r : Option Sent) → slice_get w.sent n ≡ r
      → Placed (reached w v n seed serving r)
  reached_at v n seed (Some serving) r e = p
  reached_at v n seed None None e = p
  reached_at v n seed None (Some r) e =
      let s : States = state w in
      let left = serve (s v) seed (Asks w.name r.source (purpose_of r.question)) in
      let begun : Replica = record {
        history = histories w v;
        session = (w.replica v).session;
        serving = Some (record { number = n; left = left });
      } in
      let ok = p.sent r (In-get w.sent n r e) in
      elim (same_id r.target v) as
      (λ b. same_id r.target v ≡ b → Placed (cond b (with_replica w v begun []) w)) [
        | true ↦ λ t.
            let is : r.target ≡ v = same_id_is r.target v t in
            let apart : r.source ≢ v = subst (λ (y : Uid). r.source ≢ y) is ok.0 in
            replaced w p v begun refl (p.session v) (record {
              request = r;
              named = e;
              target = is;
              apart = apart;
              serves =
                  serve_ok w.name r.source v seed (s r.source) (histories w v) w.name r.question
                  (subst (λ (y : Uid). QuestionOk r.source y (s r.source) (s y) r.question) is ok.1)
                  (p.pairs r.source v apart);
            })
        | false ↦ λ _. p
      ] refl

  applied_at : (v : Uid) (serving : Serving) (request : Sent) → slice_get w.sent serving.number ≡ Some request
      → request.target ≡ v → request.source ≢ v → (steps : List Step)
      → Serves request.source v (state w request.source) (state w v) request.question steps serving.left.reply
      → Placed (applied w v serving steps)
  applied_at v serving request named target apart [] h = p
  applied_at v serving request named target apart (x ∷ later) h =
      let s : States = state w in
      let u : Uid = request.source in
      let t : State = after (s v) x in
      let b : Becomes s v t = serves_becomes s w p v u x request.question h.0 in
      let r : Replica = record {
        history = histories w v ++ x ∷ [];
        session = (w.replica v).session;
        serving = Some (record { number = serving.number; left = record serving.left { steps = later } });
      } in
      placed_then w v t r [] (sym (goes_on.step w.name v (histories w v) x))
      (moved s w p v t b r [] (λ l i. absurd i)
      (session-later v (s v) (changed s v t v) s (changed s v t) (grows s w p v t b v) (grows s w p v t b) w.sent
      (w.sent ++ []) (still_sent w.sent []) (w.replica v).session (p.session v))
      (record {
        request = request;
        named = still_sent w.sent [] serving.number request named;
        target = target;
        apart = apart;
        serves =
            subst (λ (y : State). Serves u v (changed s v t u) y request.question later serving.left.reply)
            (sym (changed_own s v t))
            (serves-later u v (s u) (changed s v t u) (grows s w p v t b u) request.question t later
            serving.left.reply h.1);
      }))

  applies_at : (v : Uid) (serving : Option Serving) → IfSome serving (ServingOk (state w) w.sent v)
      → Placed (applies w v serving)
  applies_at v None h = p
  applies_at v (Some serving) h =
      applied_at v serving h.request h.named h.target h.apart serving.left.steps h.serves

  without_at : (v : Uid) → Placed (without_serving w v)
  without_at v =
      replaced w p v (record { history = histories w v; session = (w.replica v).session; serving = None }) refl
      (p.session v) tt

  delivered_at : (n : ℕ) (said : reply.Reply) (r : Sent) → slice_get w.sent n ≡ Some r → r.source ≢ r.target
      → ReplyOk r.source r.target (state w r.source) (state w r.target) r.question said
      → Placed (delivered w n said (Some r))
  delivered_at n said r named apart h =
      replaced w p r.source (record {
        history = histories w r.source;
        session = hears n said (w.replica r.source).session;
        serving = (w.replica r.source).serving;
      }) refl
      (hears_ok (state w) w p r n named apart said h (w.replica r.source).session (p.session r.source))
      (p.serving r.source)

-- the states are the same where a serving is over
pub states_without : (w : World) (v : Uid) → state w ≡ state (without_serving w v)
states_without w v =
    still (state w) v
    ∙ (λ i z. state_then w v (state w v)
    (record { history = histories w v; session = (w.replica v).session; serving = None }) [] refl z i)

module _ (w : World) (p : Placed w) where
  replied_at : (v : Uid) (serving : Serving) (request : Sent) → slice_get w.sent serving.number ≡ Some request
      → request.target ≡ v → request.source ≢ v → (steps : List Step)
      → Serves request.source v (state w request.source) (state w v) request.question steps serving.left.reply
      → Placed (replied w v serving steps)
  replied_at v serving request named target apart (x ∷ later) h = p
  replied_at v serving request named target apart [] h =
      let next : World = without_serving w v in
      let u : Uid = request.source in
      subst (λ (o : Option Sent). Placed (delivered next serving.number serving.left.reply o)) (sym named)
      (delivered_at next (without_at w p v) serving.number serving.left.reply request
      (still_sent w.sent [] serving.number request named)
      (subst (λ (y : Uid). u ≢ y) (sym target) apart)
      (subst (λ (f : States). ReplyOk u request.target (f u) (f request.target) request.question serving.left.reply)
      (states_without w v)
      (subst (λ (y : Uid). ReplyOk u y (state w u) (state w y) request.question serving.left.reply) (sym target) h)))

  replies_at : (v : Uid) (serving : Option Serving) → IfSome serving (ServingOk (state w) w.sent v)
      → Placed (replies w v serving)
  replies_at v None h = p
  replies_at v (Some serving) h =
      replied_at v serving h.request h.named h.target h.apart serving.left.steps h.serves

  turns_at : (u : Uid) (turn : Turn) → TurnAt (state w) w.sent u turn
      → Placed (turned w u turn (w.replica u).serving)
  turns_at u turn h = turned_at w p u turn h (w.replica u).serving

  documents : (u : Uid) → AllDocuments (state w u)
  documents u = documents_of w.name u (histories w u)

  pub after_at : (x : WorldStep) → Placed (world.after w x)
  after_at (Local u seed command) =
      turns_at u (makes (command_step (state w u) seed command) (w.replica u).session)
      (writes_at (state w) w p u (command_step (state w u) seed command) (command_unmoved (state w u) seed command)
      (w.replica u).session (p.session u))
  after_at (Ask u v) = turns_at u (ask_turn w u v) (ask_at w p u v)
  after_at (Reach v n seed) = reached_at w p v n seed (w.replica v).serving (slice_get w.sent n) refl
  after_at (Apply v) = applies_at w p v (w.replica v).serving (p.serving v)
  after_at (Reply v) = replies_at v (w.replica v).serving (p.serving v)
  after_at (Send u) =
      turns_at u _ (send_at (state w) w p u (documents u) (w.replica u).session (p.session u))
  after_at (Take u seed) =
      turns_at u _ (take_at (state w) w p u (documents u) seed (w.replica u).session (p.session u))
  after_at (Settle u) = turns_at u _ (settle_at (state w) w p u (w.replica u).session (p.session u))
  after_at (Finish u) = turns_at u _ (finish_at (state w) w p u (w.replica u).session (p.session u))
  after_at (BreakSession u) = turns_at u (goes Idle) (goes_at (state w) w p u Idle tt)
  after_at (BreakServing v) = without_at w p v
  after_at (Stop u) =
      replaced w p u (record { history = histories w u; session = Idle; serving = None }) refl tt tt

pub after_all_at : (w : World) → Placed w → (steps : List WorldStep) → Placed (after_all w steps)
after_all_at w p [] = p
after_all_at w p (x ∷ later) = after_all_at (world.after w x) (after_at w p x) later
