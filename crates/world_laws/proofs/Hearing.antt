-- A reply that comes to the session that waits for it leads on with what is kept.
use Rattle.std.specs.Prelude.{◌≡◌, ◌≢◌, ◌==◌, ℕ, true, false, if◌then◌else◌, List, Some, refl}
use Rattle.std.specs.List.{slice_get}
use Rattle.std.proofs.Common.{sym, ◌∙◌, ap, subst, eqb-true}
use Rattle.vector_rev.specs.Counts.{Uid}
use Rattle.conflicts.specs.Lists.{In}
use Rattle.conflicts.specs.State.{State}
use Rattle.u1_base.specs.Places.{Place}
use Rattle.sync_stream.specs.Replies as reply
use Rattle.sync_stream.specs.Requests.{ToExchange}
use Rattle.sync_stream.specs.declared.line.SyncDoc.{SyncDoc}
use Rattle.sync_places.specs.inner.Facts.{NotOlder, Returned}
use Rattle.sync_places.proofs.Pairs.{recorded_first, told_by_lines}
use Rattle.sync_world.specs.Source.{Session, Idle, AwaitsInfo, HasInfo, AwaitsReturned, Taking, Settled, AwaitsKept}
use Rattle.sync_world.specs.Source.{Complete, hears, info_in, kept_in, returned_in}
use Rattle.sync_world.specs.World.{World, Sent}
use Rattle.world_laws.proofs.PairFacts.{AwaitsOk, InfoOk, PlacedOver, ReplyOk, SessionAt, States}

pub same_sent : (x y : Sent) → Some x ≡ Some y → x ≡ y
same_sent x y e = cc

same_posted : (p q : Place) (x y : List SyncDoc) → ToExchange p x ≡ ToExchange q y → x ≡ y
same_posted p q x y e = cc

module _ (s : States) (w : World) (placed : PlacedOver s w) (r : Sent) (n : ℕ) (named : slice_get w.sent n ≡ Some r)
    (apart : r.source ≢ r.target) where
  abbrev u : Uid
  u = r.source

  abbrev a : State
  a = s r.source

  info_ok : (said : reply.Reply) → ReplyOk u r.target a (s r.target) r.question said
      → SessionAt a s w.sent u (info_in said)
  info_ok (reply.Tells info) h = (
    subst (λ (z : Uid). u ≢ z) (sym h.0) apart,
    subst (λ (z : Uid). InfoOk u (s z) info) (sym h.0) h.1,
  )
  info_ok reply.Keeps h = tt
  info_ok (reply.Returns top docs) h = tt
  info_ok (reply.Refuses refusal) h = tt

  -- the request is the one that the session posted
  returned_ok : (v : Uid) (base : ℕ) → AwaitsOk a s w.sent u v base n → (said : reply.Reply)
      → ReplyOk u r.target a (s r.target) r.question said → SessionAt a s w.sent u (returned_in v base said)
  returned_ok v base h (reply.Tells info) k = tt
  returned_ok v base h reply.Keeps k = tt
  returned_ok v base h (reply.Refuses refusal) k = tt
  returned_ok v base h (reply.Returns top docs) k =
      let post : Sent = record { source = u; target = v; question = ToExchange h.known h.docs } in
      let same : r ≡ post = same_sent r post (sym named ∙ h.named) in
      let target : r.target ≡ v = ap (λ (z : Sent). z.target) same in
      let sent : k.sent ≡ h.docs =
      same_posted k.known h.known k.sent h.docs (sym k.is ∙ ap (λ (z : Sent). z.question) same) in
      let older : (doc : SyncDoc) → In doc h.docs → NotOlder ((s v).document doc.id) doc.member.rev =
      subst (λ (z : Uid). (doc : SyncDoc) → In doc h.docs → NotOlder ((s z).document doc.id) doc.member.rev) target
      (subst (λ (z : List SyncDoc). (doc : SyncDoc) → In doc z
      → NotOlder ((s r.target).document doc.id) doc.member.rev) sent k.not_older) in (
        record {
          apart = h.apart;
          told =
              told_by_lines a (s v) u h.lists.from base h.docs h.lists.listed h.lists.told
              (placed.pairs u v h.apart).told older;
          recorded = recorded_first a (s v) base h.lists.listed.within;
        },
        subst (λ (z : Uid). Returned a (s z) z docs top) target k.returned,
      )

  kept_ok : (v : Uid) (said : reply.Reply) → SessionAt a s w.sent u (kept_in v said)
  kept_ok v (reply.Tells info) = tt
  kept_ok v reply.Keeps = tt
  kept_ok v (reply.Returns top docs) = tt
  kept_ok v (reply.Refuses refusal) = tt

  pub hears_ok : (said : reply.Reply) → ReplyOk u r.target a (s r.target) r.question said → (session : Session)
      → SessionAt a s w.sent u session → SessionAt a s w.sent u (hears n said session)
  hears_ok said k Idle h = h
  hears_ok said k (AwaitsInfo m) h =
      elim (m == n) as (λ b. SessionAt a s w.sent u (if b then info_in said else AwaitsInfo m)) [
        | true ↦ info_ok said k
        | false ↦ tt
      ]
  hears_ok said k (HasInfo info) h = h
  hears_ok said k (AwaitsReturned v base m) h =
      elim (m == n) as
      (λ b. (m == n) ≡ b
      → SessionAt a s w.sent u (if b then returned_in v base said else AwaitsReturned v base m)) [
        | true ↦ λ e.
            returned_ok v base (subst (λ (i : ℕ). AwaitsOk a s w.sent u v base i) (eqb-true m n e) h) said k
        | false ↦ λ _. h
      ] refl
  hears_ok said k (Taking v base taken docs top) h = h
  hears_ok said k (Settled v base taken) h = h
  hears_ok said k (AwaitsKept v m) h =
      elim (m == n) as (λ b. SessionAt a s w.sent u (if b then kept_in v said else AwaitsKept v m)) [
        | true ↦ kept_ok v said
        | false ↦ tt
      ]
  hears_ok said k (Complete v) h = h
