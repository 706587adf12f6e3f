-- Each step of a quiet session keeps what holds of it, and at its end both sides read the same.
use Rattle.std.specs.Prelude.{◌≡◌, ◌≢◌, ◌⊎◌, ℕ, ◌≤◌, ◌==◌, Bool, true, false, cond, if◌then◌else◌, List, [], ◌∷◌}
use Rattle.std.specs.Prelude.{◌++◌, length}
use Rattle.std.specs.Prelude.{nat_lt, Option, Some, None, IfSome, refl}
use Rattle.std.specs.List.{slice_get}
use Rattle.std.proofs.Common.{sym, ◌∙◌, ap, subst, inl, inr, eqb-true, lt-ltb}
use Rattle.std.proofs.lemmas.Bool.{cases_lt}
use Rattle.u1_base.specs.Ids.{same_id}
use Rattle.u1_base.proofs.Booleans.{none_true, not_both}
use Rattle.u1_base.proofs.SameIds.{is_same_id, same_id-itself, same_id_is}
use Rattle.vector_rev.specs.Counts.{Uid}
use Rattle.conflicts.specs.Document.{Document, content_of, is_conflicted}
use Rattle.conflicts.specs.State.{State, Step, Text, state_of}
use Rattle.conflicts.specs.State as state_words
use Rattle.conflicts.proofs.States.{goes_on}
use Rattle.sync_http.specs.declared.info.Info.{Info}
use Rattle.sync_stream.specs.Messages.{Asks}
use Rattle.sync_stream.specs.Replies as reply
use Rattle.sync_stream.specs.Requests.{Question, ForInfo, ToKeep, ToExchange, purpose_of}
use Rattle.sync_stream.specs.Serving.{serve}
use Rattle.sync_stream.specs.declared.line.SyncDoc.{SyncDoc}
use Rattle.u1_base.specs.Places.{Place}
use Rattle.sync_places.specs.inner.Facts.{Returned, ToldTo}
use Rattle.sync_places.specs.inner.Last.{last_of}
use Rattle.sync_places.proofs.LastPlaces.{last_in-within}
use Rattle.sync_world.specs.Source.{Session, Idle, AwaitsInfo, HasInfo, AwaitsReturned, Taking, Settled, AwaitsKept}
use Rattle.sync_world.specs.Source.{Complete, Turn, asks, finish_turn, goes, hears, info_in, kept_in, makes}
use Rattle.sync_world.specs.Source.{returned_in}
use Rattle.sync_world.specs.Source.{send_turn, settle_turn, take_turn}
use Rattle.sync_world.specs.World.{World, WorldStep, Sent, Serving, Replica, Local, Ask, Reach, Apply, Reply, Send}
use Rattle.sync_world.specs.World.{Take, Settle, Finish, BreakSession, BreakServing, Stop, after, after_all, applied}
use Rattle.sync_world.specs.World.{applies, ask_turn, command_step, delivered, histories, posted, reached, replied}
use Rattle.sync_world.specs.World.{replies, start, state, turned, turns, with_replica, without_serving}
use Rattle.sync_world.proofs.Traced.{IsTraced, after_all_is, after_is, start_is}
use Rattle.world_laws.specs.Quiet.{Belongs, Passes, Quiet, QuietAgrees, waits_for}
use Rattle.world_laws.proofs.Agreeing.{read_logged}
use Rattle.world_laws.proofs.Becoming.{Placed}
use Rattle.world_laws.proofs.Hearing.{same_sent}
use Rattle.world_laws.proofs.Kept.{sent_last, still_sent}
use Rattle.world_laws.proofs.PairFacts.{InfoOk, LeavesBy, ReplyOk, Serves, ServingOk, SessionAt, States}
use Rattle.world_laws.proofs.Paired.{begins, one_content}
use Rattle.world_laws.proofs.Placing.{after_all_at, after_at, states_without}
use Rattle.world_laws.proofs.Quieted.{Between, IsAsked, LeavesQuiet, QuietAt, SameContent, quiet-sent, send_quiet}
use Rattle.world_laws.proofs.Quieted.{finish_quiet, settle_quiet, take_quiet}
use Rattle.world_laws.proofs.Serving.{documents_of}
use Rattle.world_laws.proofs.Single.{Single}

abbrev QuietHere : World → Uid → Uid → Text → Type 0
QuietHere w u v d = QuietAt u v d (state w u) (state w v) w.sent (w.replica u).session

not_same : (u v : Uid) → u ≢ v → same_id u v ≡ false
not_same u v apart = none_true (same_id u v) (λ t. apart (same_id_is u v t))

same_session : (w : World) (u z : Uid) → same_id u z ≡ true → (w.replica z).session ≡ (w.replica u).session
same_session w u z t = ap (λ (y : Uid). (w.replica y).session) (sym (same_id_is u z t))

-- ---- a replica becomes another one

module _ (w : World) (u v : Uid) (d : Text) (z : Uid) (r : Replica) (letters : List Sent) where
  abbrev next : World
  next = with_replica w z r letters

  quiet_with : (a b : State) (session : Session) → state next u ≡ a → state next v ≡ b
      → (next.replica u).session ≡ session → QuietAt u v d a b (w.sent ++ letters) session → QuietHere next u v d
  quiet_with a b session is_a is_b is h =
      subst (λ (x : State). QuietAt u v d x (state next v) (w.sent ++ letters) (next.replica u).session) (sym is_a)
      (subst (λ (y : State). QuietAt u v d a y (w.sent ++ letters) (next.replica u).session) (sym is_b)
      (subst (λ (k : Session). QuietAt u v d a b (w.sent ++ letters) k) (sym is) h))

  session_of : (same_id u z ≡ true → r.session ≡ (w.replica u).session)
      → (next.replica u).session ≡ (w.replica u).session
  session_of h =
      elim (same_id u z) as
      (λ b. same_id u z ≡ b → (cond b r (w.replica u)).session ≡ (w.replica u).session) [
        | true ↦ λ t. h t
        | false ↦ λ _. refl
      ] refl

  -- both hold what they held
  kept_leaf : histories next u ≡ histories w u → histories next v ≡ histories w v
      → (same_id u z ≡ true → r.session ≡ (w.replica u).session) → QuietHere w u v d → QuietHere next u v d
  kept_leaf source target same h =
      quiet_with (state w u) (state w v) (w.replica u).session (ap (state_of w.name u) source)
      (ap (state_of w.name v) target) (session_of same)
      (quiet-sent u v d (state w u) (state w v) w.sent (w.sent ++ letters) (still_sent w.sent letters)
      (w.replica u).session h)

  same_history : r.history ≡ histories w z → (y : Uid) → histories next y ≡ histories w y
  same_history is y =
      elim (same_id y z) as (λ b. same_id y z ≡ b → (cond b r (w.replica y)).history ≡ histories w y) [
        | true ↦ λ t. is ∙ ap (histories w) (sym (same_id_is y z t))
        | false ↦ λ _. refl
      ] refl

-- ---- a serving at v of the request that the session waits for

same_number : (m n : ℕ) → Some m ≡ Some n → m ≡ n
same_number m n e = cc

no_number : {A : Type 0} (n : ℕ) → None ≡ Some n → A
no_number n e = absurd (never e)
  where
    never : None ≡ Some n → ⊥
    never e = cc

module _ (u v : Uid) (d : Text) (a b : State) (sent : List Sent) (n : ℕ) (r : Sent)
    (named : slice_get sent n ≡ Some r) where
  question_of : (q : Question) (m : ℕ) → Some m ≡ Some n → IsAsked sent u v m q → r.question ≡ q
  question_of q m e asked =
      ap (λ (z : Sent). z.question)
      (same_sent r (record { source = u; target = v; question = q })
      (sym named ∙ subst (λ (k : ℕ). IsAsked sent u v k q) (same_number m n e) asked))

  served_quiet : (c : State) → LeavesBy r.question b c → (session : Session) → waits_for session ≡ Some n
      → QuietAt u v d a b sent session → QuietAt u v d a c sent session
  served_quiet c leaves Idle e h = tt
  served_quiet c leaves (AwaitsInfo m) e h =
      let by = subst (λ (q : Question). LeavesBy q b c) (question_of ForInfo m e h.asked) leaves in
      record { asked = h.asked; source = h.source; target = by d h.target }
  served_quiet c leaves (HasInfo info) e h = no_number n e
  served_quiet c leaves (AwaitsReturned t base m) e h =
      let by =
      subst (λ (q : Question). LeavesBy q b c) (question_of (ToExchange h.known h.docs) m e h.asked) leaves in
      record {
        is = h.is;
        known = h.known;
        docs = h.docs;
        asked = h.asked;
        source = h.source;
        target = by d h.target;
        now = h.now;
      }
  served_quiet c leaves (Taking t base taken docs top) e h = no_number n e
  served_quiet c leaves (Settled t base taken) e h = no_number n e
  served_quiet c leaves (AwaitsKept t m) e h =
      let by = subst (λ (q : Question). LeavesBy q b c) (question_of (ToKeep h.at) m e h.asked) leaves in
      record { at = h.at; asked = h.asked; same = h.same ∙ sym (ap content_of (by d)) }
  served_quiet c leaves (Complete t) e h = no_number n e

-- ---- a reply comes

module _ (u v : Uid) (d : Text) (s : States) (sent : List Sent) (n : ℕ) (r : Sent)
    (named : slice_get sent n ≡ Some r) (said : reply.Reply)
    (ok : ReplyOk r.source r.target (s r.source) (s r.target) r.question said) where
  reply_to : (q : Question) (m : ℕ) → m ≡ n → IsAsked sent u v m q → ReplyOk u v (s u) (s v) q said
  reply_to q m e asked =
      subst (λ (z : Sent). ReplyOk z.source z.target (s z.source) (s z.target) z.question said)
      (same_sent r (record { source = u; target = v; question = q })
      (sym named ∙ subst (λ (k : ℕ). IsAsked sent u v k q) e asked)) ok

  info_quiet : (x : reply.Reply) → ReplyOk u v (s u) (s v) ForInfo x → Single ((s u).document d)
      → Single ((s v).document d) → QuietAt u v d (s u) (s v) sent (info_in x)
  info_quiet (reply.Tells info) k one other = record { is = k.0; source = one; target = other; now = k.2 }
  info_quiet reply.Keeps k one other = tt
  info_quiet (reply.Returns top docs) k one other = tt
  info_quiet (reply.Refuses refusal) k one other = tt

  returned_quiet : (q : Question) (t : Uid) (base : ℕ) (x : reply.Reply) → ReplyOk u v (s u) (s v) q x → t ≡ v
      → Single ((s u).document d) → Single ((s v).document d) → base ≡ length (s u).log
      → QuietAt u v d (s u) (s v) sent (returned_in t base x)
  returned_quiet q t base (reply.Tells info) k is one other now = tt
  returned_quiet q t base reply.Keeps k is one other now = tt
  returned_quiet q t base (reply.Returns top docs) k is one other now = record {
    is = is;
    target = other;
    reads = inl (one, subst (λ (g : ℕ). last_of (s u) d ≤ g) (sym now) (last_in-within d (s u).log));
    now = k.end;
    each = k.now;
  }
  returned_quiet q t base (reply.Refuses refusal) k is one other now = tt

  kept_quiet : (t : Uid) (x : reply.Reply) → SameContent (s u) (s v) d → QuietAt u v d (s u) (s v) sent (kept_in t x)
  kept_quiet t (reply.Tells info) h = tt
  kept_quiet t reply.Keeps h = h
  kept_quiet t (reply.Returns top docs) h = tt
  kept_quiet t (reply.Refuses refusal) h = tt

  hears_quiet : (session : Session) → QuietAt u v d (s u) (s v) sent session
      → QuietAt u v d (s u) (s v) sent (hears n said session)
  hears_quiet Idle h = tt
  hears_quiet (AwaitsInfo m) h =
      elim (m == n) as
      (λ b. (m == n) ≡ b → QuietAt u v d (s u) (s v) sent (if b then info_in said else AwaitsInfo m)) [
        | true ↦ λ e. info_quiet said (reply_to ForInfo m (eqb-true m n e) h.asked) h.source h.target
        | false ↦ λ _. h
      ] refl
  hears_quiet (HasInfo info) h = h
  hears_quiet (AwaitsReturned t base m) h =
      elim (m == n) as
      (λ b. (m == n) ≡ b
      → QuietAt u v d (s u) (s v) sent (if b then returned_in t base said else AwaitsReturned t base m)) [
        | true ↦ λ e.
            returned_quiet (ToExchange h.known h.docs) t base said
            (reply_to (ToExchange h.known h.docs) m (eqb-true m n e) h.asked) h.is h.source h.target h.now
        | false ↦ λ _. h
      ] refl
  hears_quiet (Taking t base taken docs top) h = h
  hears_quiet (Settled t base taken) h = h
  hears_quiet (AwaitsKept t m) h =
      elim (m == n) as (λ b. QuietAt u v d (s u) (s v) sent (if b then kept_in t said else AwaitsKept t m)) [
        | true ↦ kept_quiet t said h.same
        | false ↦ h
      ]
  hears_quiet (Complete t) h = h

-- ---- steps

module _ (w : World) (u v : Uid) (d : Text) (apart : u ≢ v) where
  -- a turn of u
  turn_none : (turn : Turn) → LeavesQuiet u v d (state w u) (state w v) w.sent turn
      → QuietHere (turned w u turn None) u v d
  turn_none turn h =
      let r : Replica = record { history = histories w u ++ turn.steps; session = turn.session; serving = None } in
      quiet_with w u v d u r (posted u turn.sends) (state_words.after_all (state w u) turn.steps) (state w v)
      turn.session
      (ap (λ b. state_of w.name u (cond b r (w.replica u)).history) (same_id-itself u)
      ∙ goes_on.steps w.name u (histories w u) turn.steps)
      (ap (λ b. state_of w.name v (cond b r (w.replica v)).history) (not_same v u (λ e. apart (sym e))))
      (ap (λ b. (cond b r (w.replica u)).session) (same_id-itself u)) h

  module _ (h : QuietHere w u v d) where
    turn_leaf : (turn : Turn) (o : Option Serving) → LeavesQuiet u v d (state w u) (state w v) w.sent turn
        → QuietHere (turned w u turn o) u v d
    turn_leaf turn None k = turn_none turn k
    turn_leaf turn (Some serving) k = h

    -- a turn that changes neither history
    turned_leaf : (z : Uid) (turn : Turn) (o : Option Serving) → histories (turned w z turn o) u ≡ histories w u
        → histories (turned w z turn o) v ≡ histories w v
        → (same_id u z ≡ true → turn.session ≡ (w.replica u).session) → QuietHere (turned w z turn o) u v d
    turned_leaf z turn (Some serving) source target same = h
    turned_leaf z turn None source target same =
        kept_leaf w u v d z
        (record { history = histories w z ++ turn.steps; session = turn.session; serving = None })
        (posted z turn.sends) source target same h

    not_dropped : {A : Type 0} (z : Uid) → same_id z u ≡ false → same_id u z ≡ true → A
    not_dropped z f t = absurd (not_both (same_id z u) (is_same_id z u (sym (same_id_is u z t))) f)

    -- a step of a session, of u or of another one
    turn_of : (z : Uid) (turn : Uid → Turn) → QuietHere (turns w u (turn u)) u v d
        → (z ≡ u) ⊎ ((histories (turns w z (turn z)) u ≡ histories w u)
        × (histories (turns w z (turn z)) v ≡ histories w v))
        → QuietHere (turns w z (turn z)) u v d
    turn_of z turn own (inl e) = subst (λ (y : Uid). QuietHere (turns w y (turn y)) u v d) (sym e) own
    turn_of z turn own (inr p) =
        elim (same_id u z) as (λ b. same_id u z ≡ b → QuietHere (turns w z (turn z)) u v d) [
          | true ↦ λ t. subst (λ (y : Uid). QuietHere (turns w y (turn y)) u v d) (same_id_is u z t) own
          | false ↦ λ f.
              turned_leaf z (turn z) (w.replica z).serving p.0 p.1 (λ t. absurd (not_both (same_id u z) t f))
        ] refl

    reached_leaf : (z : Uid) (n seed : ℕ) (o : Option Serving) (r : Option Sent)
        → QuietHere (reached w z n seed o r) u v d
    reached_leaf z n seed (Some serving) r = h
    reached_leaf z n seed None None = h
    reached_leaf z n seed None (Some r) =
        let begun : Replica = record {
          history = histories w z;
          session = (w.replica z).session;
          serving =
              Some (record {
                number = n;
                left = serve (state w z) seed (Asks w.name r.source (purpose_of r.question));
              });
        } in
        elim (same_id r.target z) as (λ b. QuietHere (cond b (with_replica w z begun []) w) u v d) [
          | true ↦ kept_leaf w u v d z begun [] (same_history w u v d z begun [] refl u)
              (same_history w u v d z begun [] refl v) (same_session w u z) h
          | false ↦ h
        ]

    -- a step of a serving that changes neither history
    applied_leaf : (z : Uid) (serving : Serving) (steps : List Step)
        → histories (applied w z serving steps) u ≡ histories w u
        → histories (applied w z serving steps) v ≡ histories w v → QuietHere (applied w z serving steps) u v d
    applied_leaf z serving [] source target = h
    applied_leaf z serving (x ∷ later) source target =
        kept_leaf w u v d z (record {
          history = histories w z ++ x ∷ [];
          session = (w.replica z).session;
          serving = Some (record { number = serving.number; left = record serving.left { steps = later } });
        }) [] source target (same_session w u z) h

    applies_leaf : (z : Uid) (o : Option Serving) → histories (applies w z o) u ≡ histories w u
        → histories (applies w z o) v ≡ histories w v → QuietHere (applies w z o) u v d
    applies_leaf z None source target = h
    applies_leaf z (Some serving) source target = applied_leaf z serving serving.left.steps source target

    -- one of the serving at v that the session waits for
    served_leaf : (serving : Serving) (r : Sent) → slice_get w.sent serving.number ≡ Some r
        → waits_for (w.replica u).session ≡ Some serving.number → (steps : List Step)
        → Serves r.source v (state w r.source) (state w v) r.question steps serving.left.reply
        → QuietHere (applied w v serving steps) u v d
    served_leaf serving r named waits [] k = h
    served_leaf serving r named waits (x ∷ later) k =
        let t : State = state_words.after (state w v) x in
        let next : Replica = record {
          history = histories w v ++ x ∷ [];
          session = (w.replica v).session;
          serving = Some (record { number = serving.number; left = record serving.left { steps = later } });
        } in
        quiet_with w u v d v next [] (state w u) t (w.replica u).session
        (ap (λ b. state_of w.name u (cond b next (w.replica u)).history) (not_same u v apart))
        (ap (λ b. state_of w.name v (cond b next (w.replica v)).history) (same_id-itself v)
        ∙ goes_on.step w.name v (histories w v) x)
        (ap (λ b. (cond b next (w.replica u)).session) (not_same u v apart))
        (quiet-sent u v d (state w u) t w.sent (w.sent ++ []) (still_sent w.sent []) (w.replica u).session
        (served_quiet u v d (state w u) (state w v) w.sent serving.number r named t k.0.leaves
        (w.replica u).session waits h))

    serves_leaf : (o : Option Serving) → IfSome o (λ serving. waits_for (w.replica u).session ≡ Some serving.number)
        → IfSome o (ServingOk (state w) w.sent v) → QuietHere (applies w v o) u v d
    serves_leaf None waits k = h
    serves_leaf (Some serving) waits k =
        served_leaf serving k.request k.named waits serving.left.steps k.serves

    without_leaf : (z : Uid) → QuietHere (without_serving w z) u v d
    without_leaf z =
        let r : Replica = record { history = histories w z; session = (w.replica z).session; serving = None } in
        kept_leaf w u v d z r [] (same_history w u v d z r [] refl u) (same_history w u v d z r [] refl v)
        (same_session w u z) h

    -- a reply comes, to u or to another one
    delivered_leaf : (n : ℕ) (said : reply.Reply) (r : Sent) → slice_get w.sent n ≡ Some r
        → ReplyOk r.source r.target (state w r.source) (state w r.target) r.question said
        → QuietHere (delivered w n said (Some r)) u v d
    delivered_leaf n said r named ok =
        let z : Uid = r.source in
        let next : Replica = record {
          history = histories w z;
          session = hears n said (w.replica z).session;
          serving = (w.replica z).serving;
        } in
        elim (same_id u z) as
        (λ b. same_id u z ≡ b → QuietHere (with_replica w z next []) u v d) [
          | true ↦ λ t.
              quiet_with w u v d z next [] (state w u) (state w v) (hears n said (w.replica u).session)
              (ap (state_of w.name u) (same_history w u v d z next [] refl u))
              (ap (state_of w.name v) (same_history w u v d z next [] refl v))
              (ap (λ b. (cond b next (w.replica u)).session) t
              ∙ ap (λ (y : Uid). hears n said (w.replica y).session) (sym (same_id_is u z t)))
              (quiet-sent u v d (state w u) (state w v) w.sent (w.sent ++ []) (still_sent w.sent [])
              (hears n said (w.replica u).session)
              (hears_quiet u v d (state w) w.sent n r named said ok (w.replica u).session h))
          | false ↦ λ f.
              kept_leaf w u v d z next [] (same_history w u v d z next [] refl u)
              (same_history w u v d z next [] refl v) (λ t. absurd (not_both (same_id u z) t f)) h
        ] refl

module _ (w : World) (u v : Uid) (d : Text) (apart : u ≢ v) (h : QuietHere w u v d) where
  replied_leaf : (z : Uid) (serving : Serving) (r : Sent) → slice_get w.sent serving.number ≡ Some r → r.target ≡ z
      → (steps : List Step)
      → Serves r.source z (state w r.source) (state w z) r.question steps serving.left.reply
      → QuietHere (replied w z serving steps) u v d
  replied_leaf z serving r named target (x ∷ later) k = h
  replied_leaf z serving r named target [] k =
      let next : World = without_serving w z in
      let said : reply.Reply = serving.left.reply in
      subst (λ (o : Option Sent). QuietHere (delivered next serving.number said o) u v d) (sym named)
      (delivered_leaf next u v d apart (without_leaf w u v d apart h z) serving.number said r
      (still_sent w.sent [] serving.number r named)
      (subst (λ (f : States). ReplyOk r.source r.target (f r.source) (f r.target) r.question said)
      (states_without w z)
      (subst (λ (y : Uid). ReplyOk r.source y (state w r.source) (state w y) r.question said) (sym target) k)))

  replies_leaf : (z : Uid) (o : Option Serving) → IfSome o (ServingOk (state w) w.sent z)
      → QuietHere (replies w z o) u v d
  replies_leaf z None k = h
  replies_leaf z (Some serving) k =
      replied_leaf z serving k.request k.named k.target serving.left.steps k.serves

  -- ---- all of them

  module _ (p : Placed w) (t : IsTraced w) where
    between : Between u v (state w u) (state w v)
    between = record {
      pair = p.pairs u v apart;
      source = documents_of w.name u (histories w u);
      target = documents_of w.name v (histories w v);
      logged = λ x r is. read_logged w.name u (histories w u) x r is;
      logged_too = λ x r is. read_logged w.name v (histories w v) x r is;
      contents = one_content w p t.descends u v apart;
    }

    told : (info : Info) → (w.replica u).session ≡ HasInfo info → InfoOk u (state w v) info
    told info e =
        let k = subst (λ (z : Session). SessionAt (state w u) (state w) w.sent u z) e (p.session u) in
        let q = subst (λ (z : Session). QuietAt u v d (state w u) (state w v) w.sent z) e h in
        subst (λ (y : Uid). InfoOk u (state w y) info) q.is k.1

    returned : (y : Uid) (base taken : ℕ) (docs : List SyncDoc) (top : Place)
        → (w.replica u).session ≡ Taking y base taken docs top → y ≡ v
        → ToldTo (state w u) (state w v) base × Returned (state w u) (state w v) v docs top
    returned y base taken docs top e is =
        let k = subst (λ (z : Session). SessionAt (state w u) (state w) w.sent u z) e (p.session u) in (
          subst (λ (x : Uid). ToldTo (state w u) (state w x) base) is k.0.told,
          subst (λ (x : Uid). Returned (state w u) (state w x) x docs top) is k.1,
        )

    own : (turn : Turn) → LeavesQuiet u v d (state w u) (state w v) w.sent turn → QuietHere (turns w u turn) u v d
    own turn k = turn_leaf w u v d apart h turn (w.replica u).serving k

    histories_of : {A : Type 0} (x : WorldStep) → A ⊎ Passes w u v x
        → A ⊎ ((histories (after w x) u ≡ histories w u) × (histories (after w x) v ≡ histories w v))
    histories_of x (inl b) = inl b
    histories_of x (inr k) = inr (k.source, k.target)

    quiet_after : (x : WorldStep) → Belongs w u v x ⊎ Passes w u v x → QuietHere (after w x) u v d
    quiet_after (Local z seed command) (inl b) = absurd b
    quiet_after (Local z seed command) (inr k) =
        turned_leaf w u v d apart h z (makes (command_step (state w z) seed command) (w.replica z).session)
        (w.replica z).serving k.source k.target (same_session w u z)
    quiet_after (Ask z y) (inl b) = absurd b
    quiet_after (Ask z y) (inr k) =
        turned_leaf w u v d apart h z (ask_turn w z y) (w.replica z).serving k.source k.target
        (not_dropped w u v d apart h z k.keeps)
    quiet_after (Reach z n seed) k =
        reached_leaf w u v d apart h z n seed (w.replica z).serving (slice_get w.sent n)
    quiet_after (Apply z) (inl b) =
        subst (λ (y : Uid). QuietHere (applies w y (w.replica y).serving) u v d) (sym b.0)
        (serves_leaf w u v d apart h (w.replica v).serving b.1 (p.serving v))
    quiet_after (Apply z) (inr k) = applies_leaf w u v d apart h z (w.replica z).serving k.source k.target
    quiet_after (Reply z) k = replies_leaf z (w.replica z).serving (p.serving z)
    quiet_after (Send z) k =
        turn_of w u v d apart h z (λ y. send_turn (state w y) (length w.sent) (w.replica y).session)
        (own _ (send_quiet u v d (state w u) (state w v) w.sent between (w.replica u).session h told))
        (histories_of (Send z) k)
    quiet_after (Take z seed) k =
        turn_of w u v d apart h z (λ y. take_turn (state w y) seed (w.replica y).session)
        (own _ (take_quiet u v d (state w u) (state w v) w.sent between seed (w.replica u).session h))
        (histories_of (Take z seed) k)
    quiet_after (Settle z) k =
        turn_of w u v d apart h z (λ y. settle_turn (state w y) (w.replica y).session)
        (own _ (settle_quiet u v d (state w u) (state w v) w.sent between (w.replica u).session h returned))
        (histories_of (Settle z) k)
    quiet_after (Finish z) k =
        turn_of w u v d apart h z (λ y. finish_turn (state w y) (length w.sent) (w.replica y).session)
        (own _ (finish_quiet u v d (state w u) (state w v) w.sent between (w.replica u).session h))
        (histories_of (Finish z) k)
    quiet_after (BreakSession z) (inl b) = absurd b
    quiet_after (BreakSession z) (inr k) =
        turned_leaf w u v d apart h z (goes Idle) (w.replica z).serving k.source k.target
        (not_dropped w u v d apart h z k.keeps)
    quiet_after (BreakServing z) k = without_leaf w u v d apart h z
    quiet_after (Stop z) (inl b) = absurd b
    quiet_after (Stop z) (inr k) =
        let r : Replica = record { history = histories w z; session = Idle; serving = None } in
        kept_leaf w u v d z r [] (same_history w u v d z r [] refl u) (same_history w u v d z r [] refl v)
        (not_dropped w u v d apart h z k.keeps) h

-- ---- from the beginning of a session to its end

quiet_all : (u v : Uid) (d : Text) → u ≢ v → (w : World) → Placed w → IsTraced w → QuietHere w u v d
    → (later : List WorldStep) → Quiet w u v later
    → SameContent (state (after_all w later) u) (state (after_all w later) v) d
quiet_all u v d apart w p t h [] is =
    subst (λ (k : Session). QuietAt u v d (state w u) (state w v) w.sent k) is h
quiet_all u v d apart w p t h (x ∷ later) q =
    quiet_all u v d apart (after w x) (after_at w p x) (after_is w t x) (quiet_after w u v d apart h p t x q.0) later
    q.1

not_conflicted : (x : Document) → is_conflicted x ≡ false → Single x
not_conflicted x e = elim (cases_lt 1 (length x.members)) [
  | inl more ↦ absurd (not_both (nat_lt 1 (length x.members)) (lt-ltb 1 (length x.members) more) e)
  | inr few ↦ few
]

module _ (w : World) (u v : Uid) (d : Text) (apart : u ≢ v) (one : Single ((state w u).document d))
    (other : Single ((state w v).document d)) where
  asks_leaves : LeavesQuiet u v d (state w u) (state w v) w.sent (ask_turn w u v)
  asks_leaves =
      subst (λ (b : Bool). LeavesQuiet u v d (state w u) (state w v) w.sent
      (cond b (goes (w.replica u).session) (asks (AwaitsInfo (length w.sent)) v ForInfo)))
      (sym (not_same v u (λ e. apart (sym e))))
      (record {
        asked = sent_last w.sent (record { source = u; target = v; question = ForInfo });
        source = one;
        target = other;
      })

  asked_here : (w.replica u).serving ≡ None → QuietHere (after w (Ask u v)) u v d
  asked_here free =
      subst (λ (o : Option Serving). QuietHere (turned w u (ask_turn w u v) o) u v d) (sym free)
      (turn_none w u v d apart (ask_turn w u v) asks_leaves)

pub quiet_agrees : (name : Text) (before : List WorldStep) → QuietAgrees (after_all (start name) before)
quiet_agrees name before u v later apart free quiet d mine theirs =
    let w : World = after_all (start name) before in
    let p : Placed w = after_all_at (start name) (begins name) before in
    let t : IsTraced w = after_all_is (start name) (start_is name) before in
    quiet_all u v d apart (after w (Ask u v)) (after_at w p (Ask u v)) (after_is w t (Ask u v))
    (asked_here w u v d apart (not_conflicted ((state w u).document d) mine)
    (not_conflicted ((state w v).document d) theirs) free) later quiet
