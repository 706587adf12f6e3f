-- Documents that are on their way were made somewhere, what is left of a serving is lawful, and both stay so while
-- histories grow.
use Rattle.std.specs.Prelude.{◌≡◌, ◌⊎◌, true, false, cond, List, [], ◌∷◌, ◌++◌, Option, Some, None, IfSome, refl}
use Rattle.std.proofs.Common.{sym, ap, subst, inl, inr}
use Rattle.u1_base.specs.Ids.{same_id}
use Rattle.u1_base.proofs.SameIds.{same_id_is, same_id-itself}
use Rattle.vector_rev.specs.Counts.{Uid}
use Rattle.conflicts.specs.Lists.{In}
use Rattle.conflicts.specs.Document.{member_of, members_of}
use Rattle.conflicts.specs.Laws.{IsMade}
use Rattle.conflicts.specs.State.{Text, Step, History, Accepted, accepts_in}
use Rattle.conflicts.specs.declared.accept.Accept.{Accept}
use Rattle.conflicts.specs.declared.moves.Move.{Move}
use Rattle.conflicts.proofs.Members.{In-left}
use Rattle.conflicts.proofs.States.{flat_map-push}
use Rattle.sync_stream.specs.Replies.{Reply, Tells, Keeps, Returns, Refuses}
use Rattle.sync_stream.specs.Requests.{Question, ForInfo, ToKeep, ToExchange}
use Rattle.sync_stream.specs.declared.line.SyncDoc.{SyncDoc}
use Rattle.lineage.specs.Lineage.{Makes, Was, Arrives, Begins}
use Rattle.lineage.specs.Histories.{Histories, Lawful, lines, seen, stepped}
use Rattle.lineage.proofs.Descent.{Was-more}
use Rattle.sync_world.specs.Source.{Session, Idle, AwaitsInfo, HasInfo, AwaitsReturned, Taking, Settled, AwaitsKept}
use Rattle.sync_world.specs.Source.{Complete}
use Rattle.sync_world.specs.World.{Serving}

-- ---- what was made

abbrev pub DocWas : Histories → SyncDoc → Type 0
DocWas of doc = Was (lines doc.id of) doc.member

abbrev pub DocsWere : Histories → List SyncDoc → Type 0
DocsWere of docs = (doc : SyncDoc) → In doc docs → DocWas of doc

abbrev pub QuestionWas : Histories → Question → Type 0
QuestionWas of ForInfo = Unit {0}
QuestionWas of (ToKeep at) = Unit {0}
QuestionWas of (ToExchange known docs) = DocsWere of docs

abbrev pub ReplyWas : Histories → Reply → Type 0
ReplyWas of (Tells info) = Unit {0}
ReplyWas of Keeps = Unit {0}
ReplyWas of (Returns at docs) = DocsWere of docs
ReplyWas of (Refuses refusal) = Unit {0}

abbrev pub SessionWas : Histories → Session → Type 0
SessionWas of Idle = Unit {0}
SessionWas of (AwaitsInfo n) = Unit {0}
SessionWas of (HasInfo info) = Unit {0}
SessionWas of (AwaitsReturned v base n) = Unit {0}
SessionWas of (Taking v base taken docs top) = DocsWere of docs
SessionWas of (Settled v base taken) = Unit {0}
SessionWas of (AwaitsKept v n) = Unit {0}
SessionWas of (Complete v) = Unit {0}

-- each step is lawful where those before it are made, and then the documents of the reply were made
abbrev pub Responds : Histories → Uid → List Step → Reply → Type 0
Responds of v [] said = ReplyWas of said
Responds of v (x ∷ later) said = Lawful of v x × Responds (stepped of v x) v later said

abbrev pub ServingIs : Histories → Uid → Option Serving → Type 0
ServingIs of v serving = IfSome serving (λ s. Responds of v s.left.steps s.left.reply)

-- ---- what is lawful

pub quiet : (of : Histories) (u : Uid) (x : Step) → ((doc : Text) → accepts_in doc x ≡ []) → Lawful of u x
quiet of u x none doc a i = absurd (subst (In a) (none doc) i)

pub accepted_lawful : (of : Histories) (u : Uid) (doc : Text) (a : Accept) (trans : Text) (m : Option Move)
    → Arrives (lines doc of) a ⊎ Begins (lines doc of) u a → Lawful of u (Accepted doc a trans m)
accepted_lawful of u doc a trans m h d b i =
    elim (same_id d doc) as (λ k. same_id d doc ≡ k → In b (cond k (a ∷ []) [])
    → Arrives (lines d of) b ⊎ Begins (lines d of) u b) [
      | true ↦ λ t j. elim j [
        | inl e ↦ subst (λ z. Arrives (lines z of) b ⊎ Begins (lines z of) u b) (sym (same_id_is d doc t))
            (subst (λ z. Arrives (lines doc of) z ⊎ Begins (lines doc of) u z) (sym e) h)
        | inr z ↦ absurd z
      ]
      | false ↦ λ _ j. absurd j
    ] refl i

-- ---- while histories grow

-- what was made in the first stays made in the others
abbrev pub KeepsMakings : Histories → Histories → Type 0
KeepsMakings of more = (doc : Text) (u : Uid) (a : Accept) → Makes (lines doc of) u a → Makes (lines doc more) u a

pub keeps-stepped : (of : Histories) (v : Uid) (x : Step) → KeepsMakings of (stepped of v x)
keeps-stepped of v x doc u a m = record {
  accepted = elim (same_id u v) as (λ b. In a (seen doc (cond b (of u ++ x ∷ []) (of u)))) [
    | true ↦ subst (In a) (sym (flat_map-push (accepts_in doc) (of u) x))
        (In-left a (seen doc (of u)) (accepts_in doc x) m.accepted)
    | false ↦ m.accepted
  ];
  own = m.own;
}

pub stepped-own : (of : Histories) (v : Uid) (x : Step) → stepped of v x v ≡ of v ++ x ∷ []
stepped-own of v x = ap (λ b. cond b (of v ++ x ∷ []) (of v)) (same_id-itself v)

pub stepped-other : (of : Histories) (u : Uid) (x : Step) (v : Uid) → same_id v u ≡ false → of v ≡ stepped of u x v
stepped-other of u x v other = ap (λ b. cond b (of v ++ x ∷ []) (of v)) (sym other)

module _ (of more : Histories) (keeps : KeepsMakings of more) where
  pub docs-more : (docs : List SyncDoc) → DocsWere of docs → DocsWere more docs
  docs-more docs were doc i = Was-more (lines doc.id of) (lines doc.id more) (keeps doc.id) doc.member (were doc i)

  pub question-more : (q : Question) → QuestionWas of q → QuestionWas more q
  question-more ForInfo h = tt
  question-more (ToKeep at) h = tt
  question-more (ToExchange known docs) h = docs-more docs h

  pub reply-more : (said : Reply) → ReplyWas of said → ReplyWas more said
  reply-more (Tells info) h = tt
  reply-more Keeps h = tt
  reply-more (Returns at docs) h = docs-more docs h
  reply-more (Refuses refusal) h = tt

  pub session-more : (session : Session) → SessionWas of session → SessionWas more session
  session-more Idle h = tt
  session-more (AwaitsInfo n) h = tt
  session-more (HasInfo info) h = tt
  session-more (AwaitsReturned v base n) h = tt
  session-more (Taking v base taken docs top) h = docs-more docs h
  session-more (Settled v base taken) h = tt
  session-more (AwaitsKept v n) h = tt
  session-more (Complete v) h = tt

  -- what is lawful at v stays so where v itself did nothing
  lawful-more : (v : Uid) (x : Step) → of v ≡ more v → Lawful of v x → Lawful more v x
  lawful-more v x same lawful doc a i = elim (lawful doc a i) [
    | inl c ↦ inl (record {
      received = c.received;
      was = Was-more (lines doc of) (lines doc more) (keeps doc) (member_of a) c.was;
    })
    | inr b ↦ inr (record {
      own = b.own;
      made = subst (λ (h : History). IsMade v (members_of (seen doc h)) a) same b.made;
      known = λ p j. let r = b.known p j in (r.0, r.1, keeps doc r.0 r.1 r.2, r.3);
    })
  ]

  keeps-both : (v : Uid) (x : Step) → of v ≡ more v → KeepsMakings (stepped of v x) (stepped more v x)
  keeps-both v x same doc u a m = record {
    accepted =
        elim (same_id u v) as (λ b. same_id u v ≡ b → In a (seen doc (cond b (of u ++ x ∷ []) (of u)))
        → In a (seen doc (cond b (more u ++ x ∷ []) (more u)))) [
          | true ↦ λ t i. subst (λ (h : History). In a (seen doc (h ++ x ∷ [])))
              (subst (λ z. of z ≡ more z) (sym (same_id_is u v t)) same) i
          | false ↦ λ _ i. (keeps doc u a (record { accepted = i; own = m.own })).accepted
        ] refl m.accepted;
    own = m.own;
  }

pub responds-more : (of more : Histories) → KeepsMakings of more → (v : Uid) → of v ≡ more v → (steps : List Step)
    (said : Reply) → Responds of v steps said → Responds more v steps said
responds-more of more keeps v same [] said h = reply-more of more keeps said h
responds-more of more keeps v same (x ∷ later) said h = (
  lawful-more of more keeps v x same h.0,
  responds-more (stepped of v x) (stepped more v x) (keeps-both of more keeps v x same) v
      (ap (λ (k : History). cond (same_id v v) (k ++ x ∷ []) k) same) later said h.1,
)

pub serving-more : (of more : Histories) → KeepsMakings of more → (v : Uid) → of v ≡ more v
    → (serving : Option Serving) → ServingIs of v serving → ServingIs more v serving
serving-more of more keeps v same None h = tt
serving-more of more keeps v same (Some s) h = responds-more of more keeps v same s.left.steps s.left.reply h
