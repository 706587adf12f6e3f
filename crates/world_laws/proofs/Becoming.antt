-- One replica goes on: what is kept over all replicas stays, if it says what it becomes.
use Rattle.std.specs.Prelude.{◌≡◌, ◌≢◌, true, false, cond, List, ◌++◌, Option, Some, None, IfSome, refl}
use Rattle.std.proofs.Common.{sym, ◌∙◌, ap, subst, inl, inr}
use Rattle.u1_base.specs.Ids.{same_id}
use Rattle.u1_base.proofs.Booleans.{none_true, not_both}
use Rattle.u1_base.proofs.SameIds.{same_id_is, is_same_id, same_id-itself}
use Rattle.vector_rev.specs.Counts.{Uid}
use Rattle.conflicts.specs.Lists.{In}
use Rattle.conflicts.specs.State.{State, position_kept, state_of}
use Rattle.conflicts.specs.declared.moves.PosTable.TheVariants.{Known, Told}
use Rattle.conflicts.proofs.Members.{In-either}
use Rattle.sync_places.specs.inner.Facts.{Later, KnownUpTo, ToldUpTo}
use Rattle.sync_places.proofs.Growing.{known-later, told_up-later}
use Rattle.sync_places.proofs.Laters.{later_itself}
use Rattle.sync_world.specs.World.{World, Sent, Serving, Replica, state, with_replica}
use Rattle.world_laws.proofs.PairFacts.{Pair, PlacedOver, SentOk, Serves, ServingOk, SessionAt, States}
use Rattle.world_laws.proofs.Kept.{question-later, serves-later, session-later, still_sent}

-- the state of the replica z is this one now
abbrev pub changed : States → Uid → State → States
changed s z t v = cond (same_id v z) t (s v)

-- what z becomes is good for each other replica, whatever it keeps of it and was told by it
pub record Becomes (s : States) (z : Uid) (t : State) : Type 0 where
  pub later : Later (s z) t
  pub known : (v : Uid) → z ≢ v → KnownUpTo t (s v) (position_kept t Known v)
  pub told : (u : Uid) → u ≢ z → ToldUpTo (s u) t (position_kept t Told u)

other_id : (u v : Uid) → u ≢ v → same_id u v ≡ false
other_id u v apart = none_true (same_id u v) (λ t. apart (same_id_is u v t))

apart_by : (u v : Uid) → same_id u v ≡ false → u ≢ v
apart_by u v f e = not_both (same_id u v) (is_same_id u v e) f

module _ (s : States) (z : Uid) (t : State) where
  pub changed_own : changed s z t z ≡ t
  changed_own = ap (λ b. cond b t (s z)) (same_id-itself z)

  pub changed_other : (v : Uid) → same_id v z ≡ false → changed s z t v ≡ s v
  changed_other v other = ap (λ b. cond b t (s v)) other

module _ (s : States) (w : World) (p : PlacedOver s w) (z : Uid) (t : State) (b : Becomes s z t) where
  pub grows : (v : Uid) → Later (s v) (changed s z t v)
  grows v = elim (same_id v z) as (λ k. same_id v z ≡ k → Later (s v) (cond k t (s v))) [
    | true ↦ λ e. subst (λ (y : Uid). Later (s y) t) (sym (same_id_is v z e)) b.later
    | false ↦ λ _. later_itself (s v)
  ] refl

  -- z as the source, and as the target
  from_z : (v : Uid) → z ≢ v → Pair z v t (s v)
  from_z v apart = record {
    known = b.known v apart;
    told =
        told_up-later (s z) (s v) t (s v) b.later (later_itself (s v)) (position_kept (s v) Told z)
        (p.pairs z v apart).told;
  }

  to_z : (u : Uid) → u ≢ z → Pair u z (s u) t
  to_z u apart = record {
    known =
        known-later (s u) (s z) (s u) t (later_itself (s u)) b.later (position_kept (s u) Known z)
        (p.pairs u z apart).known;
    told = b.told u apart;
  }

  target_of : (u v : Uid) → u ≢ v → u ≢ z → Pair u v (s u) (changed s z t v)
  target_of u v apart other =
      elim (same_id v z) as (λ k. same_id v z ≡ k → Pair u v (s u) (cond k t (s v))) [
        | true ↦ λ e. subst (λ (y : Uid). Pair u y (s u) t) (sym (same_id_is v z e)) (to_z u other)
        | false ↦ λ _. p.pairs u v apart
      ] refl

  source_is : (u v : Uid) → u ≢ v → u ≡ z → Pair u v t (changed s z t v)
  source_is u v apart is =
      let other : z ≢ v = λ e. apart (is ∙ e) in
      subst (λ (y : State). Pair u v t y) (sym (changed_other s z t v (other_id v z (λ e. other (sym e)))))
      (subst (λ (y : Uid). Pair y v t (s v)) (sym is) (from_z v other))

  pairs_then : (u v : Uid) → u ≢ v → Pair u v (changed s z t u) (changed s z t v)
  pairs_then u v apart =
      elim (same_id u z) as (λ k. same_id u z ≡ k → Pair u v (cond k t (s u)) (changed s z t v)) [
        | true ↦ λ e. source_is u v apart (same_id_is u z e)
        | false ↦ λ f. target_of u v apart (apart_by u z f)
      ] refl

  pub sent_then : (r : Sent) → SentOk s r → SentOk (changed s z t) r
  sent_then r h = (
    h.0,
    question-later r.source r.target (s r.source) (s r.target) (changed s z t r.source) (changed s z t r.target)
        (grows r.source) (grows r.target) r.question h.1,
  )

  -- a serving of another replica
  serving_then : (letters : List Sent) (v : Uid) → same_id v z ≡ false → (serving : Serving)
      → ServingOk s w.sent v serving → ServingOk (changed s z t) (w.sent ++ letters) v serving
  serving_then letters v other serving h = record {
    request = h.request;
    named = still_sent w.sent letters serving.number h.request h.named;
    target = h.target;
    apart = h.apart;
    serves =
        subst (λ (y : State). Serves h.request.source v (changed s z t h.request.source) y h.request.question
        serving.left.steps serving.left.reply) (sym (changed_other s z t v other))
        (serves-later h.request.source v (s h.request.source) (changed s z t h.request.source)
        (grows h.request.source) h.request.question (s v) serving.left.steps serving.left.reply h.serves);
  }

  servings_then : (letters : List Sent) (v : Uid) → same_id v z ≡ false → (serving : Option Serving)
      → IfSome serving (ServingOk s w.sent v)
      → IfSome serving (ServingOk (changed s z t) (w.sent ++ letters) v)
  servings_then letters v other None h = tt
  servings_then letters v other (Some serving) h = serving_then letters v other serving h

  pub moved : (r : Replica) (letters : List Sent) → ((l : Sent) → In l letters → SentOk (changed s z t) l)
      → SessionAt (changed s z t z) (changed s z t) (w.sent ++ letters) z r.session
      → IfSome r.serving (ServingOk (changed s z t) (w.sent ++ letters) z)
      → PlacedOver (changed s z t) (with_replica w z r letters)
  moved r letters sends session serving = record {
    pairs = pairs_then;
    sent = λ l i. elim (In-either l w.sent letters i) [
      | inl j ↦ sent_then l (p.sent l j)
      | inr j ↦ sends l j
    ];
    session = λ v.
        elim (same_id v z) as
        (λ k. same_id v z ≡ k → SessionAt (changed s z t v) (changed s z t) (w.sent ++ letters) v
        (cond k r (w.replica v)).session) [
          | true ↦ λ e.
              subst (λ (y : Uid). SessionAt (changed s z t y) (changed s z t) (w.sent ++ letters) y r.session)
              (sym (same_id_is v z e)) session
          | false ↦ λ _.
              session-later v (s v) (changed s z t v) s (changed s z t) (grows v) grows w.sent (w.sent ++ letters)
              (still_sent w.sent letters) (w.replica v).session (p.session v)
        ] refl;
    serving = λ v.
        elim (same_id v z) as
        (λ k. same_id v z ≡ k
        → IfSome (cond k r (w.replica v)).serving (ServingOk (changed s z t) (w.sent ++ letters) v)) [
          | true ↦ λ e.
              subst (λ (y : Uid). IfSome r.serving (ServingOk (changed s z t) (w.sent ++ letters) y))
              (sym (same_id_is v z e)) serving
          | false ↦ λ f. servings_then letters v f (w.replica v).serving (p.serving v)
        ] refl;
  }

-- ---- nothing became another one

pub still : (s : States) (z : Uid) → s ≡ changed s z (s z)
still s z = λ i v. each v i
  where
    each : (v : Uid) → s v ≡ changed s z (s z) v
    each v = elim (same_id v z) as (λ b. same_id v z ≡ b → s v ≡ cond b (s z) (s v)) [
      | true ↦ λ e. ap s (same_id_is v z e)
      | false ↦ λ _. refl
    ] refl

-- ---- the world after it

pub state_then : (w : World) (z : Uid) (t : State) (r : Replica) (letters : List Sent)
    → t ≡ state_of w.name z r.history → (v : Uid) → changed (state w) z t v ≡ state (with_replica w z r letters) v
state_then w z t r letters is v =
    elim (same_id v z) as
    (λ k. same_id v z ≡ k
    → cond k t (state w v) ≡ state_of w.name v (cond k r (w.replica v)).history) [
      | true ↦ λ e. is ∙ ap (λ (y : Uid). state_of w.name y r.history) (sym (same_id_is v z e))
      | false ↦ λ _. refl
    ] refl

abbrev pub Placed : World → Type 0
Placed w = PlacedOver (state w) w

pub placed_then : (w : World) (z : Uid) (t : State) (r : Replica) (letters : List Sent)
    → t ≡ state_of w.name z r.history → PlacedOver (changed (state w) z t) (with_replica w z r letters)
    → Placed (with_replica w z r letters)
placed_then w z t r letters is h =
    subst (λ (f : States). PlacedOver f (with_replica w z r letters)) (λ i v. state_then w z t r letters is v i) h
