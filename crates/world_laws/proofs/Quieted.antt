-- What holds between the two sides of a quiet session, of one document that neither held in conflict.
use Rattle.std.specs.Prelude.{◌≡◌, ◌⊎◌, ℕ, ◌≤◌, ◌==◌, true, false, if◌then◌else◌, List}
use Rattle.std.specs.Prelude.{[], ◌∷◌, ◌++◌, length, Option, Some, None, IfSome}
use Rattle.std.specs.Prelude.{refl}
use Rattle.std.specs.List.{slice_get}
use Rattle.std.proofs.Common.{sym, ◌∙◌, ap, subst, inl, inr, arith, eqb-true}
use Rattle.std.proofs.lemmas.Bool.{and_parts}
use Rattle.u1_base.specs.Places.{Place}
use Rattle.translog.specs.Log.{end_of}
use Rattle.translog.specs.Source.{passes}
use Rattle.vector_rev.specs.Clock.{Clock}
use Rattle.vector_rev.specs.Counts.{Uid}
use Rattle.conflicts.specs.Document.{Document, content_of}
use Rattle.conflicts.specs.Lists.{In}
use Rattle.conflicts.specs.Receipts.{after_taken}
use Rattle.conflicts.specs.State.{State, Text, after_all, position_kept}
use Rattle.conflicts.specs.Writing.{Answers, Refuses, kept_place, move_step, take_answers}
use Rattle.conflicts.specs.declared.accept.Accept.{Accept}
use Rattle.conflicts.specs.declared.member.Member.{Member}
use Rattle.conflicts.specs.declared.moves.PosTable.TheVariants.{Known, Told}
use Rattle.conflicts.proofs.LeftByReceipts as receipts
use Rattle.sync_http.specs.declared.info.Info.{Info}
use Rattle.sync_stream.specs.Requests.{Question, ForInfo, ToKeep, ToExchange}
use Rattle.sync_stream.specs.Serving.{steps_for, steps_to, taken_of}
use Rattle.sync_stream.specs.declared.line.SyncDoc.{SyncDoc}
use Rattle.sync_phases.specs.Phases.{has_all, is_level, known_of, known_to, posted_to}
use Rattle.sync_phases.specs.declared.fault.SyncFault.TheVariants.{LogCheck}
use Rattle.sync_places.specs.inner.Facts.{AllDocuments, KnownUpTo, Returned, ToldTo}
use Rattle.sync_places.specs.inner.Last.{last_of}
use Rattle.sync_places.proofs.LastPlaces.{last_in-within}
use Rattle.sync_places.proofs.Laters.{later_itself}
use Rattle.sync_places.proofs.Lines.{Leaves, leaves, moved_to}
use Rattle.sync_places.proofs.Pairs.{one_text, settle_known}
use Rattle.sync_world.specs.Source.{Session, Idle, AwaitsInfo, HasInfo, AwaitsReturned, Taking, Settled, AwaitsKept}
use Rattle.sync_world.specs.Source.{Complete, Turn, finish_turn, finishes_by, goes, posts, send_turn}
use Rattle.sync_world.specs.Source.{settle_turn, settles_by, take_turn, takes_by, unless_fault}
use Rattle.sync_world.specs.World.{Sent, posted}
use Rattle.sync_world.proofs.Turns.{by_info_is}
use Rattle.world_laws.proofs.Agreeing.{agree}
use Rattle.world_laws.proofs.Kept.{sent_last, still_sent}
use Rattle.world_laws.proofs.PairFacts.{InfoOk, Pair}
use Rattle.world_laws.proofs.Single.{Single}

-- ---- what holds, by where the session of u with v stands; a and b are the states of u and v

-- request n is this question of u to v
abbrev pub IsAsked : List Sent → Uid → Uid → ℕ → Question → Type 0
IsAsked sent u v n q = slice_get sent n ≡ Some (record { source = u; target = v; question = q })

abbrev pub SameContent : State → State → Text → Type 0
SameContent a b d = content_of (a.document d) ≡ content_of (b.document d)

-- a has of the document what it had when its log was so long, or it reads what b reads
abbrev pub Reads : State → State → Text → ℕ → Type 0
Reads a b d base = (Single (a.document d) × (last_of a d ≤ base)) ⊎ SameContent a b d

pub record Asked (a b : State) (d : Text) (sent : List Sent) (u v : Uid) (n : ℕ) : Type 0 where
  pub asked : IsAsked sent u v n ForInfo
  pub source : Single (a.document d)
  pub target : Single (b.document d)

pub record Informed (a b : State) (d : Text) (v : Uid) (info : Info) : Type 0 where
  pub is : info.target ≡ v
  pub source : Single (a.document d)
  pub target : Single (b.document d)
  pub now : info.target_at.generation ≡ length b.log

pub record Posted (a b : State) (d : Text) (sent : List Sent) (u v t : Uid) (base n : ℕ) : Type 0 where
  pub is : t ≡ v
  pub known : Place
  pub docs : List SyncDoc
  pub asked : IsAsked sent u v n (ToExchange known docs)
  pub source : Single (a.document d)
  pub target : Single (b.document d)
  pub now : base ≡ length a.log

pub record Takes (a b : State) (d : Text) (v t : Uid) (base : ℕ) (docs : List SyncDoc) (top : Place) : Type 0 where
  pub is : t ≡ v
  pub target : Single (b.document d)
  pub reads : Reads a b d base
  pub now : top.generation ≡ length b.log
  pub each : (doc : SyncDoc) → In doc docs → doc.member.content ≡ content_of (b.document doc.id)

pub record Telling (a b : State) (d : Text) (sent : List Sent) (u v t : Uid) (n : ℕ) : Type 0 where
  pub at : Place
  pub asked : IsAsked sent u v n (ToKeep at)
  pub same : SameContent a b d

abbrev pub QuietAt : Uid → Uid → Text → State → State → List Sent → Session → Type 0
QuietAt u v d a b sent Idle = Unit {0}
QuietAt u v d a b sent (AwaitsInfo n) = Asked a b d sent u v n
QuietAt u v d a b sent (HasInfo info) = Informed a b d v info
QuietAt u v d a b sent (AwaitsReturned t base n) = Posted a b d sent u v t base n
QuietAt u v d a b sent (Taking t base taken docs top) = Takes a b d v t base docs top
QuietAt u v d a b sent (Settled t base taken) = (t ≡ v) × SameContent a b d
QuietAt u v d a b sent (AwaitsKept t n) = Telling a b d sent u v t n
QuietAt u v d a b sent (Complete t) = SameContent a b d

-- requests that are sent later change nothing
pub quiet-sent : (u v : Uid) (d : Text) (a b : State) (sent more : List Sent)
    → ((n : ℕ) (r : Sent) → slice_get sent n ≡ Some r → slice_get more n ≡ Some r) → (session : Session)
    → QuietAt u v d a b sent session → QuietAt u v d a b more session
quiet-sent u v d a b sent more keeps Idle h = tt
quiet-sent u v d a b sent more keeps (AwaitsInfo n) h =
    record { asked = keeps n _ h.asked; source = h.source; target = h.target }
quiet-sent u v d a b sent more keeps (HasInfo info) h = h
quiet-sent u v d a b sent more keeps (AwaitsReturned t base n) h = record {
  is = h.is;
  known = h.known;
  docs = h.docs;
  asked = keeps n _ h.asked;
  source = h.source;
  target = h.target;
  now = h.now;
}
quiet-sent u v d a b sent more keeps (Taking t base taken docs top) h = h
quiet-sent u v d a b sent more keeps (Settled t base taken) h = h
quiet-sent u v d a b sent more keeps (AwaitsKept t n) h =
    record { at = h.at; asked = keeps n _ h.asked; same = h.same }
quiet-sent u v d a b sent more keeps (Complete t) h = h

-- ---- the end of an exchange

-- what holds of both replicas whatever they do
pub record Between (u v : Uid) (a b : State) : Type 0 where
  pub pair : Pair u v a b
  pub source : AllDocuments a
  pub target : AllDocuments b
  pub logged : (d : Text) (r : Clock) → (a.document d).current ≡ Some r → 1 ≤ last_of a d
  pub logged_too : (d : Text) (r : Clock) → (b.document d).current ≡ Some r → 1 ≤ last_of b d
  pub contents : (d : Text) (m n : Member) → In m (a.document d).members → In n (b.document d).members
      → m.rev ≡ n.rev → m.content ≡ n.content

module _ (u v : Uid) (d : Text) (a b : State) (h : Between u v a b) where
  -- b was told all that a has of the document, and a knows all that b has
  meet : (base : ℕ) → ToldTo a b base → last_of a d ≤ base → (p : Place) → KnownUpTo a b p
      → p.generation ≡ length b.log → Single (a.document d) → Single (b.document d) → SameContent a b d
  meet base told low p known all one other =
      agree (a.document d) (b.document d) one other (h.source d) (h.target d) (h.contents d)
      (λ r is. told.told d r (h.logged d r is) low is)
      (λ r is.
      known.known d r (h.logged_too d r is)
      (subst (λ (k : ℕ). last_of b d ≤ k) (sym all) (last_in-within d b.log)) is)

  -- the two are level
  level_meets : (info : Info) → Informed a b d v info → InfoOk u b info → is_level a info ≡ true → SameContent a b d
  level_meets info k told level =
      let parts = and_parts (length a.log == info.source_at.generation)
      ((known_of a info.target).generation == info.target_at.generation) level in
      let mine : length a.log ≡ info.source_at.generation =
      eqb-true (length a.log) info.source_at.generation parts.0 in
      let theirs : (position_kept a Known info.target).generation ≡ info.target_at.generation =
      eqb-true (known_of a info.target).generation info.target_at.generation parts.1 in
      let all : (position_kept a Known v).generation ≡ length b.log =
      subst (λ (y : Uid). (position_kept a Known y).generation ≡ info.target_at.generation) k.is theirs ∙ k.now in
      let within : last_of a d ≤ length a.log = last_in-within d a.log in
      let low : last_of a d ≤ (position_kept b Told u).generation = omega (arith, within, mine, told) in
      meet (position_kept b Told u).generation h.pair.told.upto low (position_kept a Known v) h.pair.known all
      k.source k.target

  -- all documents that came back are taken
  end_meets : (base : ℕ) (top : Place) → ToldTo a b base → Returned a b v [] top → top.generation ≡ length b.log
      → Single (b.document d) → Reads a b d base → SameContent a b d
  end_meets base top told returned all other (inl few) =
      meet base told few.1 top (settle_known a a b v top (later_itself a) h.pair.known returned) all few.0 other
  end_meets base top told returned all other (inr same) = same

-- a document that comes back is what b reads; where it is accepted, a reads it then
module _ (u v : Uid) (d : Text) (a t b : State) (doc : SyncDoc)
    (l : Leaves a t doc (taken_of a doc true).accepted (known_to v doc.at))
    (documents : AllDocuments a) (now : doc.member.content ≡ content_of (b.document doc.id)) where
  alike : (x y : Document) → x ≡ y → content_of x ≡ content_of y
  alike x y e = ap content_of e

  untouched : (base : ℕ) → (t.document d ≡ a.document d) × (last_of t d ≡ last_of a d) → Reads a b d base
      → Reads t b d base
  untouched base same (inl few) = inl (
    subst Single (sym same.0) few.0,
    subst (λ (k : ℕ). k ≤ base) (sym same.1) few.1,
  )
  untouched base same (inr is) = inr (alike (t.document d) (a.document d) same.0 ∙ is)

  read_then : (o : Option Accept) → (taken_of a doc true).accepted ≡ o → (base : ℕ) → d ≡ doc.id → Reads a b d base
      → Reads t b d base
  read_then None e base here reads = untouched base (l.same e d) reads
  read_then (Some x) e base here reads =
      let law = receipts.law (a.document doc.id) (documents doc.id) doc.member true a.uid in
      let read : content_of (after_taken (a.document doc.id) (Some x)) ≡ doc.member.content =
      subst (λ (o : Option Accept). IfSome o (λ z. content_of (after_taken (a.document doc.id) (Some z))
      ≡ doc.member.content)) e (law.content refl) in
      let left : t.document doc.id ≡ after_taken (a.document doc.id) (Some x) =
      l.here ∙ ap (after_taken (a.document doc.id)) e in
      inr (subst (λ (z : Text). content_of (t.document z) ≡ content_of (b.document z)) (sym here)
      (alike (t.document doc.id) (after_taken (a.document doc.id) (Some x)) left ∙ read ∙ now))

  pub take_reads : (base : ℕ) → Reads a b d base → Reads t b d base
  take_reads base reads = elim (one_text d doc.id) [
    | inl here ↦ read_then (taken_of a doc true).accepted refl base here reads
    | inr other ↦ untouched base (l.elsewhere d other) reads
  ]

-- ---- the turns of the source

-- what a turn of u leaves; v stays as it is
abbrev pub LeavesQuiet : Uid → Uid → Text → State → State → List Sent → Turn → Type 0
LeavesQuiet u v d a b sent turn =
    QuietAt u v d (after_all a turn.steps) b (sent ++ posted u turn.sends) turn.session

module _ (u v : Uid) (d : Text) (a b : State) (sent : List Sent) (between : Between u v a b) where
  stays_quiet : (session : Session) → QuietAt u v d a b sent session → LeavesQuiet u v d a b sent (goes session)
  stays_quiet session h = quiet-sent u v d a b sent (sent ++ []) (still_sent sent []) session h

  pub send_quiet : (session : Session) → QuietAt u v d a b sent session
      → ((info : Info) → session ≡ HasInfo info → InfoOk u b info)
      → LeavesQuiet u v d a b sent (send_turn a (length sent) session)
  send_quiet Idle h told = tt
  send_quiet (AwaitsInfo m) h told = stays_quiet (AwaitsInfo m) h
  send_quiet (HasInfo info) h told =
      by_info_is (λ result. LeavesQuiet u v d a b sent (unless_fault result)) a info (goes (Complete info.target))
      (posts a (length sent) info)
      (λ level. level_meets u v d a b between info h (told info refl) level)
      (record {
        is = h.is;
        known = known_of a info.target;
        docs = docs_of (posted_to a info.target info.source_at);
        asked = named;
        source = h.source;
        target = h.target;
        now = refl;
      })
      (λ fault. tt)
    where
      docs_of : Question → List SyncDoc
      docs_of ForInfo = []
      docs_of (ToKeep at) = []
      docs_of (ToExchange known docs) = docs

      named : IsAsked (sent ++ posted u (posts a (length sent) info).sends) u v (length sent)
          (posted_to a info.target info.source_at)
      named =
          subst (λ (y : Uid). IsAsked (sent ++ posted u (posts a (length sent) info).sends) u y (length sent)
          (posted_to a info.target info.source_at)) h.is
          (sent_last sent (record {
            source = u;
            target = info.target;
            question = posted_to a info.target info.source_at;
          }))
  send_quiet (AwaitsReturned t base m) h told = stays_quiet (AwaitsReturned t base m) h
  send_quiet (Taking t base taken docs top) h told = stays_quiet (Taking t base taken docs top) h
  send_quiet (Settled t base taken) h told = stays_quiet (Settled t base taken) h
  send_quiet (AwaitsKept t m) h told = stays_quiet (AwaitsKept t m) h
  send_quiet (Complete t) h told = stays_quiet (Complete t) h

  pub take_quiet : (seed : ℕ) (session : Session) → QuietAt u v d a b sent session
      → LeavesQuiet u v d a b sent (take_turn a seed session)
  take_quiet seed Idle h = tt
  take_quiet seed (AwaitsInfo m) h = stays_quiet (AwaitsInfo m) h
  take_quiet seed (HasInfo info) h = stays_quiet (HasInfo info) h
  take_quiet seed (AwaitsReturned t base m) h = stays_quiet (AwaitsReturned t base m) h
  take_quiet seed (Taking t base taken [] top) h = stays_quiet (Taking t base taken [] top) h
  take_quiet seed (Taking t base taken (doc ∷ docs) top) h =
      let move = known_to t doc.at in
      elim (passes (kept_place a move) doc.at) as
      (λ k. passes (kept_place a move) doc.at ≡ k → LeavesQuiet u v d a b sent (takes_by t base taken docs top
      (if k then take_answers seed doc.id move a (taken_of a doc true)
      else Refuses (LogCheck (kept_place a move) doc.at)))) [
        | true ↦ λ ok. takes_one ok
        | false ↦ λ _. tt
      ] refl
    where
      takes_one : passes (kept_place a (known_to t doc.at)) doc.at ≡ true
          → Takes (after_all a (steps_for a seed true doc (known_to t doc.at))) b d v t base docs top
      takes_one ok = record {
        is = h.is;
        target = h.target;
        reads =
            take_reads u t d a (after_all a (steps_for a seed true doc (known_to t doc.at))) b doc
            (leaves a seed true doc (known_to t doc.at) ok) between.source (h.each doc (inl refl)) base h.reads;
        now = h.now;
        each = λ e i. h.each e (inr i);
      }
  take_quiet seed (Settled t base taken) h = stays_quiet (Settled t base taken) h
  take_quiet seed (AwaitsKept t m) h = stays_quiet (AwaitsKept t m) h
  take_quiet seed (Complete t) h = stays_quiet (Complete t) h

  pub settle_quiet : (session : Session) → QuietAt u v d a b sent session
      → ((t : Uid) (base taken : ℕ) (docs : List SyncDoc) (top : Place) → session ≡ Taking t base taken docs top
      → t ≡ v → ToldTo a b base × Returned a b v docs top)
      → LeavesQuiet u v d a b sent (settle_turn a session)
  settle_quiet Idle h told = tt
  settle_quiet (AwaitsInfo m) h told = stays_quiet (AwaitsInfo m) h
  settle_quiet (HasInfo info) h told = stays_quiet (HasInfo info) h
  settle_quiet (AwaitsReturned t base m) h told = stays_quiet (AwaitsReturned t base m) h
  settle_quiet (Taking t base taken [] top) h told =
      let move = known_to t top in
      elim (passes (kept_place a move) top) as
      (λ k. passes (kept_place a move) top ≡ k → LeavesQuiet u v d a b sent (settles_by t base taken
      (if k then Answers tt (move_step a move) else Refuses (LogCheck (kept_place a move) top)))) [
        | true ↦ λ ok. (h.is, settled ok)
        | false ↦ λ _. tt
      ] refl
    where
      settled : passes (kept_place a (known_to t top)) top ≡ true
          → SameContent (after_all a (steps_to a (known_to t top))) b d
      settled ok =
          let k = told t base taken [] top refl h.is in
          ap content_of ((moved_to a (known_to t top) ok).documents d).0
          ∙ end_meets u v d a b between base top k.0 k.1 h.now h.target h.reads
  settle_quiet (Taking t base taken (doc ∷ docs) top) h told = stays_quiet (Taking t base taken (doc ∷ docs) top) h
  settle_quiet (Settled t base taken) h told = stays_quiet (Settled t base taken) h
  settle_quiet (AwaitsKept t m) h told = stays_quiet (AwaitsKept t m) h
  settle_quiet (Complete t) h told = stays_quiet (Complete t) h

  pub finish_quiet : (session : Session) → QuietAt u v d a b sent session
      → LeavesQuiet u v d a b sent (finish_turn a (length sent) session)
  finish_quiet Idle h = tt
  finish_quiet (AwaitsInfo m) h = stays_quiet (AwaitsInfo m) h
  finish_quiet (HasInfo info) h = stays_quiet (HasInfo info) h
  finish_quiet (AwaitsReturned t base m) h = stays_quiet (AwaitsReturned t base m) h
  finish_quiet (Taking t base taken docs top) h = stays_quiet (Taking t base taken docs top) h
  finish_quiet (Settled t base taken) h =
      elim (has_all a base taken) as
      (λ k. LeavesQuiet u v d a b sent
      (finishes_by (length sent) t (if k then Some (ToKeep (end_of a.log)) else None))) [
        | true ↦ record { at = end_of a.log; asked = named; same = h.1 }
        | false ↦ h.1
      ]
    where
      named : IsAsked (sent ++ record { source = u; target = t; question = ToKeep (end_of a.log) } ∷ []) u v
          (length sent) (ToKeep (end_of a.log))
      named =
          subst (λ (y : Uid). IsAsked
          (sent ++ record { source = u; target = t; question = ToKeep (end_of a.log) } ∷ []) u y (length sent)
          (ToKeep (end_of a.log))) h.0
          (sent_last sent (record { source = u; target = t; question = ToKeep (end_of a.log) }))
  finish_quiet (AwaitsKept t m) h = stays_quiet (AwaitsKept t m) h
  finish_quiet (Complete t) h = stays_quiet (Complete t) h
