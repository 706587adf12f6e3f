-- What is decided where a serving begins is good: each of its steps, and then its reply.
use Rattle.std.specs.Prelude.{◌≡◌, ℕ, ◌≤◌, true, false, not, if◌then◌else◌, List, [], ◌∷◌, ◌++◌, filter, option_to_list}
use Rattle.std.specs.Prelude.{Option, Some, None, refl}
use Rattle.std.proofs.Common.{sym, ◌∙◌, ap, subst, inl, inr, le_trans}
use Rattle.u1_base.specs.Ids.{same_id}
use Rattle.u1_base.specs.Places.{Place}
use Rattle.translog.specs.Log.{fits_log}
use Rattle.translog.specs.Source.{passes}
use Rattle.translog.specs.Entries.{changes_since}
use Rattle.translog.specs.declared.entry.Change.{Change}
use Rattle.vector_rev.specs.Clock.{Clock}
use Rattle.vector_rev.specs.Counts.{Uid}
use Rattle.conflicts.specs.Document.{Document, content_at, content_now, content_of, current_member}
use Rattle.conflicts.specs.Lists.{In}
use Rattle.conflicts.specs.State.{Text, State, Step, History, accepts_in, after_all, position_kept, state_of}
use Rattle.conflicts.specs.Writing.{move_step, take_step}
use Rattle.conflicts.specs.declared.member.Member.{Member}
use Rattle.conflicts.specs.declared.moves.Move.{Move}
use Rattle.conflicts.specs.declared.moves.PosTable.TheVariants.{Known, Told}
use Rattle.conflicts.proofs.States.{goes_on}
use Rattle.conflicts.proofs.WellFormed.{document_of-IsDocument}
use Rattle.std.specs.List.{flat_map}
use Rattle.std.specs.Option.{option_map}
use Rattle.sync_stream.specs.Came.{Whole}
use Rattle.sync_stream.specs.Messages.{Asks}
use Rattle.sync_stream.specs.Replies.{Keeps, LogCheck, NotFound}
use Rattle.sync_stream.specs.Requests.{Question, ForInfo, ToKeep, ToExchange, purpose_of}
use Rattle.sync_stream.specs.Serving.{Held, Response, asked, exchanged, held_after, is_held, passing, refused, sent}
use Rattle.sync_stream.specs.Serving.{serve, steps_for}
use Rattle.sync_stream.specs.Serving.{steps_to, taken_of}
use Rattle.sync_stream.specs.declared.line.SyncDoc.{SyncDoc}
use Rattle.sync_places.specs.inner.Facts.{AllDocuments, ToldUpTo, Listed, AtLines}
use Rattle.sync_places.proofs.Growing.{told_up-later}
use Rattle.sync_places.proofs.Laters.{later_itself, le_itself}
use Rattle.sync_places.proofs.Lines.{Leaves, MovedTo, leaves, moved_to}
use Rattle.sync_places.proofs.Pairs.{line_passed, line_told, one_text}
use Rattle.sync_places.proofs.Sending.{from_sent, returned_all}
use Rattle.world_laws.proofs.PairFacts.{LeavesBy, Pair, QuestionOk, Serves}
use Rattle.world_laws.proofs.Single.{Single, single_stays}

-- the documents of a replica
pub documents_of : (name : Text) (v : Uid) (h : History) → AllDocuments (state_of name v h)
documents_of name v h d = document_of-IsDocument (flat_map (accepts_in d) h)

documents_at : (name : Text) (v : Uid) (h : History) (s : State) → s ≡ state_of name v h → AllDocuments s
documents_at name v h s is = subst AllDocuments (sym is) (documents_of name v h)

later_steps : (name : Text) (v : Uid) (h : History) (s : State) (made : List Step) → s ≡ state_of name v h
    → after_all s made ≡ state_of name v (h ++ made)
later_steps name v h s made is = ap (λ t. after_all t made) is ∙ sym (goes_on.steps name v h made)

-- before the first line
lines_begin : (a b : State) (from upto : ℕ) (docs : List SyncDoc) → Listed a from upto docs → AtLines a b docs docs []
lines_begin a b from upto docs listed = record {
  passed = λ doc i. inl i;
  from_all = λ doc i. i;
  rising = listed.rising;
  early = λ h i. absurd i;
  has = λ h i r. absurd i;
}

module _ (u v : Uid) (a : State) (question : Question) where
  -- the steps of one document, if any, and then the rest
  passed : (b : State) (doc : SyncDoc) (o : Option Step)
      → Leaves b (after_all b (option_to_list o)) doc (taken_of b doc false).accepted
      (record { table = Told; uid = u; at = doc.at })
      → ToldUpTo a (after_all b (option_to_list o)) (position_kept (after_all b (option_to_list o)) Told u)
      → LeavesBy question b (after_all b (option_to_list o))
      → (later : Response)
      → Serves u v a (after_all b (option_to_list o)) question later.steps later.reply
      → Serves u v a b question (passing (option_to_list o) later).steps (passing (option_to_list o) later).reply
  passed b doc None l told by later rest = rest
  passed b doc (Some x) l told by later rest =
      (record { later = l.later; told = told; others = l.others; leaves = by }, rest)

-- the document that is taken does not come into conflict, and no other one changes
taken_leaves : (b t : State) (doc : SyncDoc) (m : Move) → AllDocuments b
    → Leaves b t doc (taken_of b doc false).accepted m → (d : Text) → Single (b.document d) → Single (t.document d)
taken_leaves b t doc m documents l d few = elim (one_text d doc.id) [
  | inl here ↦
      subst (λ (z : Text). Single (t.document z)) (sym here)
      (subst Single (sym l.here)
      (single_stays b.uid (b.document doc.id) (documents doc.id) doc.member
      (subst (λ (z : Text). Single (b.document z)) here few)))
  | inr other ↦ subst Single (sym (l.elsewhere d other).0) few
]

-- what is sent now is what is read now
content_is : (d : Document) (m : Member) → current_member d ≡ Some m → m.content ≡ content_of d
content_is d m e = by d.current e
  where
    same_content : (x : Member) → Some x ≡ Some m → m.content ≡ x.content
    same_content x e = cc

    none_some : None ≡ Some m → ⊥
    none_some e = cc

    by : (c : Option Clock) → option_map (λ k. record { rev = k; content = content_at k d.members }) c ≡ Some m
        → m.content ≡ content_now c d.members
    by None e = absurd (none_some e)
    by (Some k) e = same_content (record { rev = k; content = content_at k d.members }) e

sent_now : (s : State) (changes : List Change) (doc : SyncDoc) → In doc (sent s changes)
    → doc.member.content ≡ content_of (s.document doc.id)
sent_now s changes doc i =
    let r = from_sent s changes doc i in
    subst (λ (z : SyncDoc). z.member.content ≡ content_of (s.document z.id)) (sym r.is)
    (content_is (s.document r.change.doc) r.member r.current)

module _ (name : Text) (u v : Uid) (seed : ℕ) (a : State) (known : Place) (all : List SyncDoc) (from upto : ℕ)
    (listed : Listed a from upto all) (before : known.generation ≤ (position_kept a Known v).generation) where
  exchanged_ok : (docs : List SyncDoc) (h : History) (b : State) → b ≡ state_of name v h
      → ToldUpTo a b (position_kept b Told u) → from ≤ (position_kept b Told u).generation → (held : List Held)
      → AtLines a b all docs held
      → Serves u v a b (ToExchange known all) (exchanged b seed u known held docs Whole).steps
      (exchanged b seed u known held docs Whole).reply
  exchanged_ok [] h b is told low held at = record {
    known = known;
    sent = all;
    is = refl;
    not_older = λ doc i. elim (at.passed doc i) [ inl j ↦ absurd j | inr n ↦ n ];
    returned = returned_all a b v known all held (documents_at name v h b is) before at;
    end = refl;
    now = sent_now b (filter (λ c. not (is_held held c)) (changes_since b.log known.generation));
  }
  exchanged_ok (doc ∷ docs) h b is told low held at =
      let move : Move = record { table = Told; uid = u; at = doc.at } in
      let made : List Step = steps_for b seed false doc move in
      let t : State = after_all b made in
      let documents : AllDocuments b = documents_at name v h b is in
      let later : Response = exchanged t seed u known
      (held ++ held_after (taken_of b doc false).outcome doc.id t) docs Whole in
      elim (passes (position_kept b Told u) doc.at) as
      (λ p. passes (position_kept b Told u) doc.at ≡ p
      → Serves u v a b (ToExchange known all) (if p then passing made later else refused LogCheck).steps
      (if p then passing made later else refused LogCheck).reply) [
        | true ↦ λ ok.
            let l = leaves b seed false doc move ok in
            let now = subst (ToldUpTo a t) (sym l.kept)
            (line_told a b t u from upto all docs held doc listed low documents told at ok l) in
            passed u v a (ToExchange known all) b doc (take_step seed doc.id move b (taken_of b doc false).accepted)
            l now (taken_leaves b t doc move documents l) later
            (exchanged_ok docs (h ++ made) t (later_steps name v h b made is) now
            (le_trans low (l.later.places Told u))
            (held ++ held_after (taken_of b doc false).outcome doc.id t)
            (line_passed a b t u from upto all docs held doc listed low documents told at ok l))
        | false ↦ λ _. tt
      ] refl

-- ---- any request

module _ (name : Text) (u v : Uid) (seed : ℕ) (a : State) (h : History) where
  abbrev b : State
  b = state_of name v h

  kept_ok : (at : Place) (o : Option Step) (move : Move)
      → ToldUpTo a (after_all b (option_to_list o)) (position_kept (after_all b (option_to_list o)) Told u)
      → MovedTo b (after_all b (option_to_list o)) (record { table = Told; uid = u; at = at })
      → Serves u v a b (ToKeep at) (option_to_list o) Keeps
  kept_ok at None move told m = tt
  kept_ok at (Some x) move told m = (
    record {
      later = m.later;
      told = told;
      others = m.others;
      leaves = λ d. (m.documents d).0;
    },
    tt,
  )

  asked_ok : (q : Question) → QuestionOk u v a b q → ToldUpTo a b (position_kept b Told u)
      → Serves u v a b q (asked b seed u (purpose_of q)).steps (asked b seed u (purpose_of q)).reply
  asked_ok ForInfo ok told = (refl, le_itself (position_kept b Told u).generation, refl)
  asked_ok (ToKeep at) ok told =
      let move : Move = record { table = Told; uid = u; at = at } in
      let kept : Response = record { reply = Keeps; steps = steps_to b move; passed = [] } in
      elim (passes (position_kept b Told u) at) as
      (λ p. passes (position_kept b Told u) at ≡ p
      → Serves u v a b (ToKeep at) (if p then kept else refused LogCheck).steps
      (if p then kept else refused LogCheck).reply) [
        | true ↦ λ t.
            let m = moved_to b move t in
            let now = told_up-later a b a (after_all b (steps_to b move)) (later_itself a) m.later at ok in
            kept_ok at (move_step b move) move
            (subst (ToldUpTo a (after_all b (steps_to b move))) (sym m.kept) now) m
        | false ↦ λ _. tt
      ] refl
  asked_ok (ToExchange known docs) ok told =
      elim (fits_log b.log known) as
      (λ p. Serves u v a b (ToExchange known docs)
      (if p then exchanged b seed u known [] docs Whole else refused LogCheck).steps
      (if p then exchanged b seed u known [] docs Whole else refused LogCheck).reply) [
        | true ↦
            exchanged_ok name u v seed a known docs ok.lists.from ok.upto ok.lists.listed ok.before docs h b refl told
            ok.lists.told [] (lines_begin a b ok.lists.from ok.upto docs ok.lists.listed)
        | false ↦ tt
      ]

  pub serve_ok : (db : Text) (q : Question) → QuestionOk u v a b q → Pair u v a b
      → Serves u v a b q (serve b seed (Asks db u (purpose_of q))).steps
      (serve b seed (Asks db u (purpose_of q))).reply
  serve_ok db q ok pair =
      elim (same_id name db) as
      (λ p. Serves u v a b q (if p then asked b seed u (purpose_of q) else refused NotFound).steps
      (if p then asked b seed u (purpose_of q) else refused NotFound).reply) [
        | true ↦ asked_ok q ok pair.told
        | false ↦ tt
      ]
