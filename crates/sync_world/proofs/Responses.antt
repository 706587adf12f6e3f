-- A response is lawful: each of its steps where those before it are made.
use Rattle.std.specs.Prelude.{◌≡◌, ℕ, Bool, true, false, not, if◌then◌else◌, List, [], ◌∷◌, ◌++◌, filter}
use Rattle.std.specs.Prelude.{option_to_list}
use Rattle.std.specs.Prelude.{Option, Some, None, IfSome, refl}
use Rattle.std.proofs.Common.{sym, ◌∙◌, ap, subst, inl, inr}
use Rattle.u1_base.specs.Ids.{same_id}
use Rattle.u1_base.specs.Places.{Place, same_place}
use Rattle.vector_rev.specs.Counts.{Uid}
use Rattle.translog.specs.Entries.{changes_since}
use Rattle.translog.specs.Log.{fits_log}
use Rattle.translog.specs.Source.{passes}
use Rattle.translog.specs.declared.entry.Change.{Change}
use Rattle.conflicts.specs.Lists.{In}
use Rattle.conflicts.specs.Document.{current_member}
use Rattle.conflicts.specs.Laws.{TakesOf}
use Rattle.conflicts.specs.State.{Text, State, Step, Moved, after, after_all, position_kept, state_of}
use Rattle.conflicts.specs.Writing.{kept_place, move_step, next_trans, take_step}
use Rattle.conflicts.specs.declared.accept.Accept.{Accept}
use Rattle.conflicts.specs.declared.member.Member.{Member}
use Rattle.conflicts.specs.declared.moves.Move.{Move}
use Rattle.conflicts.specs.declared.moves.PosTable.TheVariants.{Told}
use Rattle.conflicts.proofs.Makings.{decides_takes}
use Rattle.conflicts.proofs.Members.{In-either}
use Rattle.conflicts.proofs.States.{goes_on}
use Rattle.conflicts.proofs.WellFormed.{document_of-IsDocument}
use Rattle.sync_stream.specs.Came.{Whole}
use Rattle.sync_stream.specs.Messages.{Asks}
use Rattle.sync_stream.specs.Replies.{Keeps, LogCheck, NotFound}
use Rattle.sync_stream.specs.Requests.{Question, ForInfo, ToKeep, ToExchange, purpose_of}
use Rattle.sync_stream.specs.Serving.{Held, Response, asked, exchanged, held_after, is_held, passing, refused, sent}
use Rattle.sync_stream.specs.Serving.{sent_if, serve, steps_for, steps_to, taken_of}
use Rattle.sync_stream.specs.declared.line.SyncDoc.{SyncDoc}
use Rattle.lineage.specs.Lineage.{Was}
use Rattle.lineage.specs.Histories.{Histories, Descends, Lawful, lines, seen, stepped}
use Rattle.lineage.proofs.Descended.{grows}
use Rattle.lineage.proofs.Lawful.{current_was, taken_lawful}
use Rattle.sync_world.proofs.Made.{DocWas, DocsWere, QuestionWas, Responds, accepted_lawful, docs-more}
use Rattle.sync_world.proofs.Made.{keeps-stepped, quiet, stepped-own}

-- ---- one document that is taken, and one place that moves

pub move_lawful : (of : Histories) (u : Uid) (s : State) (m : Move) → IfSome (move_step s m) (Lawful of u)
move_lawful of u s m =
    elim (same_place m.at (kept_place s m)) as (λ b. IfSome (if b then None else Some (Moved m)) (Lawful of u)) [
      | true ↦ tt
      | false ↦ quiet of u (Moved m) (λ doc. refl)
    ]

module _ (name : Text) (of : Histories) (descends : Descends of) (u : Uid) where
  abbrev here : State
  here = state_of name u (of u)

  pub take_lawful : (seed : ℕ) (save : Bool) (doc : SyncDoc) (m : Move) → DocWas of doc
      → IfSome (take_step seed doc.id m here (taken_of here doc save).accepted) (Lawful of u)
  take_lawful seed save doc m was =
      by (taken_of here doc save).accepted
      (decides_takes (here.document doc.id) (document_of-IsDocument (seen doc.id (of u))) doc.member save u)
    where
      by : (o : Option Accept) → IfSome o (TakesOf u (here.document doc.id) doc.member)
          → IfSome (take_step seed doc.id m here o) (Lawful of u)
      by None h = move_lawful of u here m
      by (Some a) h = accepted_lawful of u doc.id a (next_trans seed here) (Some m)
          (taken_lawful of descends doc.id u doc.member a was h)

  -- ---- what is sent: current members

  sent_was : (c : Change) (o : Option Member) → ((m : Member) → o ≡ Some m → Was (lines c.doc of) m) → (doc : SyncDoc)
      → In doc (sent_if c o) → DocWas of doc
  sent_was c None h doc i = absurd i
  sent_was c (Some m) h doc (inl e) = subst (DocWas of) (sym e) (h m refl)
  sent_was c (Some m) h doc (inr i) = absurd i

  pub sent_were : (changes : List Change) → DocsWere of (sent here changes)
  sent_were [] doc i = absurd i
  sent_were (c ∷ changes) doc i =
      elim (In-either doc (sent_if c (current_member (here.document c.doc))) (sent here changes) i) [
        | inl j ↦ sent_was c (current_member (here.document c.doc)) (current_was of descends c.doc u) doc j
        | inr j ↦ sent_were changes doc j
      ]

-- ---- an exchange

-- the steps of one document, if any, and then the rest
passed : (of : Histories) (v : Uid) (o : Option Step) → IfSome o (Lawful of v) → (next : List Step → Response)
    → Responds of v (next []).steps (next []).reply
    → ((x : Step) → Lawful of v x → Responds (stepped of v x) v (next (x ∷ [])).steps (next (x ∷ [])).reply)
    → Responds of v (passing (option_to_list o) (next (option_to_list o))).steps
    (passing (option_to_list o) (next (option_to_list o))).reply
passed of v None lawful next none some = none
passed of v (Some x) lawful next none some = (lawful, some x lawful)

after_stepped : (name : Text) (of : Histories) (v : Uid) (s : State) (x : Step) → s ≡ state_of name v (of v)
    → after s x ≡ state_of name v (stepped of v x v)
after_stepped name of v s x is =
    ap (λ t. after t x) is ∙ sym (goes_on.step name v (of v) x) ∙ ap (state_of name v) (sym (stepped-own of v x))

module _ (name : Text) (v : Uid) (seed : ℕ) (source : Uid) (known : Place) where
  exchanged_lawful : (docs : List SyncDoc) (of : Histories) → Descends of → (s : State)
      → s ≡ state_of name v (of v) → DocsWere of docs → (held : List Held)
      → Responds of v (exchanged s seed source known held docs Whole).steps
      (exchanged s seed source known held docs Whole).reply
  exchanged_lawful [] of descends s is were held =
      let changes = filter (λ c. not (is_held held c)) (changes_since s.log known.generation) in
      subst (λ (t : State). DocsWere of (sent t changes)) (sym is) (sent_were name of descends v changes)
  exchanged_lawful (doc ∷ docs) of descends s is were held =
      let move : Move = record { table = Told; uid = source; at = doc.at } in
      let made : List Step = steps_for s seed false doc move in
      let next : List Step → Response = λ steps. exchanged (after_all s steps) seed source known
      (held ++ held_after (taken_of s doc false).outcome doc.id (after_all s steps)) docs Whole in
      elim (passes (position_kept s Told source) doc.at) as
      (λ b. Responds of v (if b then passing made (next made) else refused LogCheck).steps
      (if b then passing made (next made) else refused LogCheck).reply) [
        | true ↦ passed of v (take_step seed doc.id move s (taken_of s doc false).accepted)
            (subst (λ (t : State). IfSome (take_step seed doc.id move t (taken_of t doc false).accepted) (Lawful of v))
            (sym is) (take_lawful name of descends v seed false doc move (were doc (inl refl))))
            next
            (exchanged_lawful docs of descends s is (λ e i. were e (inr i))
            (held ++ held_after (taken_of s doc false).outcome doc.id s))
            (λ x lawful. exchanged_lawful docs (stepped of v x) (grows of v x lawful descends) (after s x)
            (after_stepped name of v s x is)
            (docs-more of (stepped of v x) (keeps-stepped of v x) docs (λ e i. were e (inr i)))
            (held ++ held_after (taken_of s doc false).outcome doc.id (after s x)))
        | false ↦ tt
      ]

-- ---- any request

module _ (name : Text) (of : Histories) (descends : Descends of) (v : Uid) (seed : ℕ) (source : Uid) where
  told_lawful : (o : Option Step) → IfSome o (Lawful of v) → Responds of v (option_to_list o) Keeps
  told_lawful None h = tt
  told_lawful (Some x) h = (h, tt)

  asked_lawful : (q : Question) → QuestionWas of q
      → Responds of v (asked (state_of name v (of v)) seed source (purpose_of q)).steps
      (asked (state_of name v (of v)) seed source (purpose_of q)).reply
  asked_lawful ForInfo h = tt
  asked_lawful (ToKeep at) h =
      let s = state_of name v (of v) in
      let move : Move = record { table = Told; uid = source; at = at } in
      let kept : Response = record { reply = Keeps; steps = steps_to s move; passed = [] } in
      elim (passes (position_kept s Told source) at) as
      (λ b. Responds of v (if b then kept else refused LogCheck).steps (if b then kept else refused LogCheck).reply) [
        | true ↦ told_lawful (move_step s move) (move_lawful of v s move)
        | false ↦ tt
      ]
  asked_lawful (ToExchange known docs) h =
      let s = state_of name v (of v) in
      elim (fits_log s.log known) as
      (λ b. Responds of v (if b then exchanged s seed source known [] docs Whole else refused LogCheck).steps
      (if b then exchanged s seed source known [] docs Whole else refused LogCheck).reply) [
        | true ↦ exchanged_lawful name v seed source known docs of descends s refl h []
        | false ↦ tt
      ]

  pub serve_lawful : (db : Text) (q : Question) → QuestionWas of q
      → Responds of v (serve (state_of name v (of v)) seed (Asks db source (purpose_of q))).steps
      (serve (state_of name v (of v)) seed (Asks db source (purpose_of q))).reply
  serve_lawful db q h =
      let s = state_of name v (of v) in
      elim (same_id name db) as
      (λ b. Responds of v (if b then asked s seed source (purpose_of q) else refused NotFound).steps
      (if b then asked s seed source (purpose_of q) else refused NotFound).reply) [
        | true ↦ asked_lawful q h
        | false ↦ tt
      ]
