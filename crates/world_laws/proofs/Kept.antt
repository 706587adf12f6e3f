-- What is kept of two replicas stays while both of them go on.
use Rattle.std.specs.Prelude.{◌≡◌, ℕ, zero, suc, List, [], ◌∷◌, ◌++◌, length, Some, refl}
use Rattle.std.specs.List.{slice_get}
use Rattle.std.proofs.Common.{le_trans}
use Rattle.vector_rev.specs.Counts.{Uid}
use Rattle.conflicts.specs.State.{State, Step, after, position_kept}
use Rattle.conflicts.specs.declared.moves.PosTable.TheVariants.{Known, Told}
use Rattle.sync_stream.specs.Replies.{Reply, Tells, Keeps, Returns, Refuses}
use Rattle.sync_stream.specs.Requests.{Question, ForInfo, ToKeep, ToExchange}
use Rattle.sync_stream.specs.declared.line.SyncDoc.{SyncDoc}
use Rattle.sync_places.specs.inner.Facts.{Later}
use Rattle.sync_places.proofs.Growing.{told_to-later, told_up-later, listed-later, returned-later, recorded-later}
use Rattle.sync_places.proofs.Laters.{later_itself}
use Rattle.sync_world.specs.Source.{Session, Idle, AwaitsInfo, HasInfo, AwaitsReturned, Taking, Settled, AwaitsKept}
use Rattle.sync_world.specs.Source.{Complete}
use Rattle.sync_world.specs.World.{Sent}
use Rattle.world_laws.proofs.PairFacts.{Lists, QuestionOk, RepliedOk, ReplyOk, Serves, SessionAt, States}

-- ---- two replicas

module _ (u v : Uid) (a b c d : State) (l : Later a c) (m : Later b d) where
  pub lists-later : (upto : ℕ) (docs : List SyncDoc) → Lists u a b upto docs → Lists u c d upto docs
  lists-later upto docs h = record {
    from = h.from;
    listed = listed-later a b c d l m h.from upto docs h.listed;
    told = le_trans h.told (m.places Told u);
  }

  pub question-later : (q : Question) → QuestionOk u v a b q → QuestionOk u v c d q
  question-later ForInfo h = tt
  question-later (ToKeep at) h = told_up-later a b c d l m at h
  question-later (ToExchange known docs) h = record {
    upto = h.upto;
    lists = lists-later h.upto docs h.lists;
    before = le_trans h.before (l.places Known v);
  }

-- a reply stays good while its source goes on
reply-later : (u v : Uid) (a c : State) → Later a c → (q : Question) (b : State) (said : Reply)
    → ReplyOk u v a b q said → ReplyOk u v c b q said
reply-later u v a c l q b (Tells info) h = h
reply-later u v a c l q b Keeps h = tt
reply-later u v a c l q b (Returns top docs) h = record {
  known = h.known;
  sent = h.sent;
  is = h.is;
  not_older = h.not_older;
  returned = returned-later a b c b l (later_itself b) v docs top h.returned;
  end = h.end;
  now = h.now;
}
reply-later u v a c l q b (Refuses refusal) h = tt

-- a serving stays good while its source goes on
pub serves-later : (u v : Uid) (a c : State) → Later a c → (q : Question) (b : State) (steps : List Step) (said : Reply)
    → Serves u v a b q steps said → Serves u v c b q steps said
serves-later u v a c l q b [] said h = reply-later u v a c l q b said h
serves-later u v a c l q b (x ∷ later) said h = (
  record {
    later = h.0.later;
    told =
        told_up-later a (after b x) c (after b x) l (later_itself (after b x)) (position_kept (after b x) Told u)
        h.0.told;
    others = h.0.others;
    leaves = h.0.leaves;
  },
  serves-later u v a c l q (after b x) later said h.1,
)

-- ---- a session

module _ (u : Uid) (a c : State) (s t : States) (l : Later a c) (each : (v : Uid) → Later (s v) (t v))
    (sent more : List Sent)
    (keeps : (n : ℕ) (r : Sent) → slice_get sent n ≡ Some r → slice_get more n ≡ Some r) where
  replied-later : (v : Uid) (base taken : ℕ) → RepliedOk a s u v base taken → RepliedOk c t u v base taken
  replied-later v base taken h = record {
    apart = h.apart;
    told = told_to-later a (s v) c (t v) l (each v) base h.told;
    recorded = recorded-later a (s v) c (t v) l (each v) base taken h.recorded;
  }

  pub session-later : (session : Session) → SessionAt a s sent u session → SessionAt c t more u session
  session-later Idle h = tt
  session-later (AwaitsInfo n) h = tt
  session-later (HasInfo info) h = (h.0, le_trans h.1 ((each info.target).places Told u))
  session-later (AwaitsReturned v base n) h = record {
    apart = h.apart;
    known = h.known;
    docs = h.docs;
    named = keeps n (record { source = u; target = v; question = ToExchange h.known h.docs }) h.named;
    lists = lists-later u v a (s v) c (t v) l (each v) base h.docs h.lists;
  }
  session-later (Taking v base taken docs top) h =
      (replied-later v base taken h.0, returned-later a (s v) c (t v) l (each v) v docs top h.1)
  session-later (Settled v base taken) h = replied-later v base taken h
  session-later (AwaitsKept v n) h = tt
  session-later (Complete v) h = tt

-- ---- the requests

pub still_sent : (sent letters : List Sent) (n : ℕ) (r : Sent) → slice_get sent n ≡ Some r
    → slice_get (sent ++ letters) n ≡ Some r
still_sent [] letters n r e = absurd (none_there e)
  where
    none_there : slice_get [] n ≡ Some r → ⊥
    none_there e = cc
still_sent (x ∷ sent) letters zero r e = e
still_sent (x ∷ sent) letters (suc n) r e = still_sent sent letters n r e

pub sent_last : (sent : List Sent) (r : Sent) → slice_get (sent ++ r ∷ []) (length sent) ≡ Some r
sent_last [] r = refl
sent_last (x ∷ sent) r = sent_last sent r
