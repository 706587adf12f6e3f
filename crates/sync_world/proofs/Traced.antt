-- After every list of steps histories descend, and all that is on its way was made.
use Rattle.std.specs.Prelude.{◌≡◌, ℕ, true, false, cond, List, [], ◌∷◌, ◌++◌, length, Option, Some, None, IfSome}
use Rattle.std.specs.Prelude.{refl}
use Rattle.std.specs.List.{slice_get}
use Rattle.std.proofs.Common.{sym, ◌∙◌, ap, subst, inl, inr, append-nil}
use Rattle.u1_base.specs.Ids.{same_id}
use Rattle.u1_base.proofs.SameIds.{same_id_is}
use Rattle.vector_rev.specs.Counts.{Uid}
use Rattle.conflicts.specs.Lists.{In}
use Rattle.conflicts.specs.State.{Text, Step}
use Rattle.conflicts.proofs.Apart.{In-get}
use Rattle.conflicts.proofs.Members.{In-either}
use Rattle.sync_stream.specs.Messages.{Asks}
use Rattle.sync_stream.specs.Replies as reply
use Rattle.sync_stream.specs.Requests.{ForInfo, purpose_of}
use Rattle.sync_stream.specs.Serving.{serve}
use Rattle.lineage.specs.Histories.{Histories, Descends, Lawful, stepped}
use Rattle.lineage.proofs.Descended as descended
use Rattle.sync_world.specs.Source.{Idle, AwaitsInfo, Letter, Turn, goes, asks, hears, makes}
use Rattle.sync_world.specs.World.{World, WorldStep, Sent, Serving, Replica, Local, Ask, Reach, Apply, Reply, Send}
use Rattle.sync_world.specs.World.{Take}
use Rattle.sync_world.specs.World.{Settle, Finish, BreakSession, BreakServing, Stop, after, after_all, applied, applies}
use Rattle.sync_world.specs.World.{ask_turn, command_step, delivered, histories, posted, reached, replied, replies}
use Rattle.sync_world.specs.World.{start, state, turned}
use Rattle.sync_world.specs.World.{with_replica, without_serving}
use Rattle.sync_world.proofs.Made.{QuestionWas, ReplyWas, SessionWas, Responds, ServingIs, KeepsMakings, keeps-stepped}
use Rattle.sync_world.proofs.Made.{question-more, session-more, serving-more, stepped-other}
use Rattle.sync_world.proofs.Responses.{serve_lawful}
use Rattle.sync_world.proofs.Turns.{TurnIs, goes_is, asks_is, makes_is, send_is, take_is, settle_is, finish_is}
use Rattle.sync_world.proofs.Turns.{command_is}
use Rattle.sync_world.proofs.Turns.{hears_is}

-- the histories of a world descend, and what its requests, sessions and servings hold was made in them
pub record Traced (of : Histories) (w : World) : Type 0 where
  pub descends : Descends of
  pub sent : (r : Sent) → In r w.sent → QuestionWas of r.question
  pub session : (u : Uid) → SessionWas of (w.replica u).session
  pub serving : (v : Uid) → ServingIs of v (w.replica v).serving

abbrev pub IsTraced : World → Type 0
IsTraced w = Traced (histories w) w

-- ---- one replica changes

module _ (w : World) (t : IsTraced w) (u : Uid) (r : Replica) (letters : List Sent) where
  abbrev next : World
  next = with_replica w u r letters

  -- to histories in which all makings stay, and those of other replicas are as they were
  becomes : (of : Histories) → ((v : Uid) → of v ≡ histories next v) → Descends of → KeepsMakings (histories w) of
      → ((v : Uid) → same_id v u ≡ false → histories w v ≡ of v) → SessionWas of r.session → ServingIs of u r.serving
      → ((l : Sent) → In l letters → QuestionWas of l.question) → IsTraced next
  becomes of is descends keeps same session serving sends =
      subst (λ (z : Histories). Traced z next) (λ i v. is v i) (record {
        descends = descends;
        sent = λ l i. elim (In-either l w.sent letters i) [
          | inl j ↦ question-more (histories w) of keeps l.question (t.sent l j)
          | inr j ↦ sends l j
        ];
        session = λ v. elim (same_id v u) as (λ b. SessionWas of (cond b r (w.replica v)).session) [
          | true ↦ session
          | false ↦ session-more (histories w) of keeps (w.replica v).session (t.session v)
        ];
        serving = λ v.
            elim (same_id v u) as (λ b. same_id v u ≡ b → ServingIs of v (cond b r (w.replica v)).serving) [
              | true ↦ λ e. subst (λ z. ServingIs of z r.serving) (sym (same_id_is v u e)) serving
              | false ↦ λ e. serving-more (histories w) of keeps v (same v e) (w.replica v).serving (t.serving v)
            ] refl;
      })

  pub without_step : r.history ≡ histories w u → SessionWas (histories w) r.session
      → ServingIs (histories w) u r.serving → ((l : Sent) → In l letters → QuestionWas (histories w) l.question)
      → IsTraced next
  without_step is session serving sends =
      becomes (histories w)
      (λ v. elim (same_id v u) as (λ b. same_id v u ≡ b → histories w v ≡ (cond b r (w.replica v)).history) [
        | true ↦ λ e. ap (histories w) (same_id_is v u e) ∙ sym is
        | false ↦ λ _. refl
      ] refl)
      t.descends (λ doc v a m. m) (λ v e. refl) session serving sends

  pub with_step : (x : Step) → r.history ≡ histories w u ++ x ∷ [] → Lawful (histories w) u x
      → SessionWas (histories w) r.session → ServingIs (stepped (histories w) u x) u r.serving
      → ((l : Sent) → In l letters → QuestionWas (histories w) l.question) → IsTraced next
  with_step x is lawful session serving sends =
      let of = stepped (histories w) u x in
      let keeps = keeps-stepped (histories w) u x in
      becomes of
      (λ v. elim (same_id v u) as
      (λ b. same_id v u ≡ b
      → cond b (histories w v ++ x ∷ []) (histories w v) ≡ (cond b r (w.replica v)).history) [
        | true ↦ λ e. ap (λ z. histories w z ++ x ∷ []) (same_id_is v u e) ∙ sym is
        | false ↦ λ _. refl
      ] refl)
      (descended.grows (histories w) u x lawful t.descends) keeps (stepped-other (histories w) u x)
      (session-more (histories w) of keeps r.session session) serving
      (λ l i. question-more (histories w) of keeps l.question (sends l i))

-- ---- each step

none_sent : (w : World) (l : Sent) → In l [] → QuestionWas (histories w) l.question
none_sent w l i = absurd i

module _ (w : World) (t : IsTraced w) where
  posted_were : (u : Uid) (sends : Option Letter) → IfSome sends (λ letter. QuestionWas (histories w) letter.question)
      → (l : Sent) → In l (posted u sends) → QuestionWas (histories w) l.question
  posted_were u None h l i = absurd i
  posted_were u (Some letter) h l (inl e) = subst (λ (z : Sent). QuestionWas (histories w) z.question) (sym e) h
  posted_were u (Some letter) h l (inr i) = absurd i

  turned_is : (u : Uid) (turn : Turn) → TurnIs (histories w) u turn → (serving : Option Serving)
      → IsTraced (turned w u turn serving)
  turned_is u turn h (Some serving) = t
  turned_is u turn h None =
      let r : Replica = record { history = histories w u ++ turn.steps; session = turn.session; serving = None } in
      let sends = posted_were u turn.sends h.sends in
      elim h.steps [
        | inl none ↦ without_step w t u r (posted u turn.sends)
            (ap (λ xs. histories w u ++ xs) none ∙ append-nil (histories w u)) h.session tt sends
        | inr one ↦ with_step w t u r (posted u turn.sends) one.0 (ap (λ xs. histories w u ++ xs) one.1) one.2
            h.session tt sends
      ]

  ask_is : (u v : Uid) → TurnIs (histories w) u (ask_turn w u v)
  ask_is u v =
      elim (same_id v u) as
      (λ b. TurnIs (histories w) u
      (cond b (goes (w.replica u).session) (asks (AwaitsInfo (length w.sent)) v ForInfo))) [
        | true ↦ goes_is (histories w) u (w.replica u).session (t.session u)
        | false ↦ asks_is (histories w) u (AwaitsInfo (length w.sent)) v ForInfo tt tt
      ]

  reached_is : (v : Uid) (n seed : ℕ) (serving : Option Serving) (r : Option Sent) → slice_get w.sent n ≡ r
      → IsTraced (reached w v n seed serving r)
  reached_is v n seed (Some serving) r e = t
  reached_is v n seed None None e = t
  reached_is v n seed None (Some r) e =
      let left = serve (state w v) seed (Asks w.name r.source (purpose_of r.question)) in
      let begun : Replica = record {
        history = histories w v;
        session = (w.replica v).session;
        serving = Some (record { number = n; left = left });
      } in
      elim (same_id r.target v) as (λ b. IsTraced (cond b (with_replica w v begun []) w)) [
        | true ↦ without_step w t v begun [] refl (t.session v)
            (serve_lawful w.name (histories w) t.descends v seed r.source w.name r.question
            (t.sent r (In-get w.sent n r e)))
            (none_sent w)
        | false ↦ t
      ]

  applied_is : (v : Uid) (s : Serving) (steps : List Step) → Responds (histories w) v steps s.left.reply
      → IsTraced (applied w v s steps)
  applied_is v s [] h = t
  applied_is v s (x ∷ later) h =
      with_step w t v (record {
        history = histories w v ++ x ∷ [];
        session = (w.replica v).session;
        serving = Some (record { number = s.number; left = record s.left { steps = later } });
      }) [] x refl h.0 (t.session v) h.1 (none_sent w)

  applies_is : (v : Uid) (serving : Option Serving) → ServingIs (histories w) v serving → IsTraced (applies w v serving)
  applies_is v None h = t
  applies_is v (Some s) h = applied_is v s s.left.steps h

  pub without_serving_is : (v : Uid) → IsTraced (without_serving w v)
  without_serving_is v =
      without_step w t v (record { history = histories w v; session = (w.replica v).session; serving = None }) [] refl
      (t.session v) tt (none_sent w)

  delivered_is : (n : ℕ) (said : reply.Reply) → ReplyWas (histories w) said → (r : Option Sent)
      → IsTraced (delivered w n said r)
  delivered_is n said was None = t
  delivered_is n said was (Some r) =
      without_step w t r.source (record {
        history = histories w r.source;
        session = hears n said (w.replica r.source).session;
        serving = (w.replica r.source).serving;
      }) [] refl (hears_is (histories w) n said was (w.replica r.source).session (t.session r.source))
      (t.serving r.source) (none_sent w)

-- a reply was made also where its serving is over
still_was : (w : World) (v : Uid) (said : reply.Reply) → ReplyWas (histories w) said
    → ReplyWas (histories (without_serving w v)) said
still_was w v said was = subst (λ (of : Histories). ReplyWas of said) (λ i z. same z i) was
  where
    same : (z : Uid) → histories w z ≡ histories (without_serving w v) z
    same z =
        elim (same_id z v) as
        (λ b. same_id z v ≡ b → histories w z ≡ (cond b (record {
          history = histories w v;
          session = (w.replica v).session;
          serving = None;
        }) (w.replica z)).history) [
          | true ↦ λ e. ap (histories w) (same_id_is z v e)
          | false ↦ λ _. refl
        ] refl

module _ (w : World) (t : IsTraced w) where
  replied_is : (v : Uid) (s : Serving) (steps : List Step) → Responds (histories w) v steps s.left.reply
      → IsTraced (replied w v s steps)
  replied_is v s [] h =
      delivered_is (without_serving w v) (without_serving_is w t v) s.number s.left.reply
      (still_was w v s.left.reply h) (slice_get w.sent s.number)
  replied_is v s (x ∷ later) h = t

  replies_is : (v : Uid) (serving : Option Serving) → ServingIs (histories w) v serving → IsTraced (replies w v serving)
  replies_is v None h = t
  replies_is v (Some s) h = replied_is v s s.left.steps h

  turns_is : (u : Uid) (turn : Turn) → TurnIs (histories w) u turn → IsTraced (turned w u turn (w.replica u).serving)
  turns_is u turn h = turned_is w t u turn h (w.replica u).serving

  pub after_is : (x : WorldStep) → IsTraced (after w x)
  after_is (Local u seed command) =
      turns_is u (makes (command_step (state w u) seed command) (w.replica u).session)
      (makes_is (histories w) u (command_step (state w u) seed command) (w.replica u).session
      (command_is w.name (histories w) t.descends u seed command) (t.session u))
  after_is (Ask u v) = turns_is u (ask_turn w u v) (ask_is w t u v)
  after_is (Reach v n seed) = reached_is w t v n seed (w.replica v).serving (slice_get w.sent n) refl
  after_is (Apply v) = applies_is w t v (w.replica v).serving (t.serving v)
  after_is (Reply v) = replies_is v (w.replica v).serving (t.serving v)
  after_is (Send u) =
      turns_is u _ (send_is w.name (histories w) t.descends u (length w.sent) (w.replica u).session (t.session u))
  after_is (Take u seed) =
      turns_is u _ (take_is w.name (histories w) t.descends u seed (w.replica u).session (t.session u))
  after_is (Settle u) = turns_is u _ (settle_is w.name (histories w) t.descends u (w.replica u).session (t.session u))
  after_is (Finish u) =
      turns_is u _ (finish_is w.name (histories w) t.descends u (length w.sent) (w.replica u).session (t.session u))
  after_is (BreakSession u) = turns_is u (goes Idle) (goes_is (histories w) u Idle tt)
  after_is (BreakServing v) = without_serving_is w t v
  after_is (Stop u) =
      without_step w t u (record { history = histories w u; session = Idle; serving = None }) [] refl tt tt
      (none_sent w)

-- ---- every list of steps

pub start_is : (name : Text) → IsTraced (start name)
start_is name = record {
  descends = descended.begins;
  sent = λ r i. absurd i;
  session = λ u. tt;
  serving = λ v. tt;
}

pub after_all_is : (w : World) → IsTraced w → (steps : List WorldStep) → IsTraced (after_all w steps)
after_all_is w t [] = t
after_all_is w t (x ∷ later) = after_all_is (after w x) (after_is w t x) later
