-- Notes that are written and taken over.
use Rattle.std.specs.Prelude.{◌≡◌, ℕ, Bool, true, false, not, List, [], ◌∷◌, Option, Some, None, Result, Ok, Err, IfOk}
use Rattle.std.specs.Prelude.{OnOk, if◌then◌else◌, refl}
use Rattle.std.specs.Option.{ok_or}
use Rattle.std.proofs.Common.{sym, ◌∙◌, ap, subst}
use Rattle.std.specs.FinMap.Entries.{find}
use Rattle.u1_base.specs.Ids.{id_cmp}
use Rattle.u1_base.specs.Places.{same_place}
use Rattle.translog.specs.Source.{passes}
use Rattle.content.specs.Tree.{Tree}
use Rattle.vector_rev.specs.Counts.{Uid}
use Rattle.vector_rev.specs.Clock.{Clock, covers}
use Rattle.conflicts.specs.Decision.{decides}
use Rattle.conflicts.specs.Document.{Document, current_member, is_conflicted, is_live}
use Rattle.conflicts.specs.Laws.{IsDocument, MakesOf}
use Rattle.conflicts.specs.Lists.{In}
use Rattle.conflicts.specs.Making.{edit_of, edited, edited_at, made_clock, names}
use Rattle.conflicts.specs.Receipts.{after_taken}
use Rattle.conflicts.specs.State.{State, Text, Moved, after}
use Rattle.conflicts.specs.declared.accept.Accept.{Accept}
use Rattle.conflicts.specs.declared.accept.Making.TheVariants.{Edit}
use Rattle.conflicts.specs.declared.edits.EditFault.TheVariants as edit_fault
use Rattle.conflicts.specs.declared.member.Member.{Member}
use Rattle.conflicts.specs.declared.moves.Move.{Move}
use Rattle.conflicts.specs.declared.receipts.Taken.{Taken}
use Rattle.conflicts.proofs.LeftByReceipts.{law}
use Rattle.conflicts.proofs.Makings.{edited_makes}
use Rattle.conflicts.proofs.WellFormed.{kept-IsDocument}
use Rattle.replica_state.specs.Held.{Held, lists_of, meaning}
use Rattle.conflicts.specs.Writing.{IsAnswer, Refuses, accept_made, kept_place, step_in, take_answers, take_step}
use Rattle.replica_core.specs.CallsDecide.{put_decides, take_decides}
use Rattle.replica_core.specs.CallsFaults.{put_refusal}
use Rattle.replica_core.specs.Replica.{after_step}
use Rattle.replica_core.specs.declared.calls.receipts.TakeFault.TheVariants.{LogCheck}
use Rattle.examples.specs.Notes.{IsCovered, Reads}
use Rattle.examples.proofs.Acceptances.{after_next, made_ok, reads_after, unless}

-- ---- over what a call promises of its Ok

pub ok_so : {A E : Type 0} {P Q : A → Type 0} (r : Result A E) → ((x : A) → P x → Q x) → IfOk r P → IfOk r Q
ok_so (Ok x) h p = h x p
ok_so (Err e) h p = tt

pub on_ok : {A E : Type 0} {P : A → Type 0} {Q : Type 0} (r : Result A E) → ((x : A) → P x → Q) → IfOk r P → OnOk r Q
on_ok (Ok x) h p = h x p
on_ok (Err e) h p = tt

-- what stands at an id is a document
pub is_document : (s : Held) (id : Text) → IsDocument ((meaning s).document id)
is_document s id = kept-IsDocument (find id_cmp id (lists_of s).docs)

-- ---- what is made of a note

-- it is marked current, and has this content
pub record IsWritten (t : Option Tree) (a : Accept) : Type 0 where
  pub marked : a.current ≡ true
  pub content : a.content ≡ t

-- what is made, accepted and marked current is what the note then reads
pub made_reads : {E F : Type 0} (refusal : E → F) (seed : ℕ) (s new : State) (id : Text) (t : Tree) (own : Uid)
    (rev : Clock) (made : Result Accept E)
    → IfOk made (MakesOf own (s.document id)) → IfOk made (IsWritten (Some t))
    → IsAnswer (accept_made refusal seed s id made) rev
    → new ≡ after_step s (step_in (accept_made refusal seed s id made)) → Reads new id rev t
made_reads refusal seed s new id t own rev (Err fault) makes written answer is = absurd answer
made_reads refusal seed s new id t own rev (Ok a) makes written answer is =
    ap (λ (x : State). current_member (x.document id)) is
    ∙ ap current_member (after_next seed s id a None)
    ∙ reads_after (s.document id) a makes.fits.not_older written.marked (Some t) written.content
    ∙ ap (λ (c : Clock). Some (record { rev = c; content = Some t })) (sym answer)

-- ---- an edit

edit_writes : (own : Uid) (parents : List Clock) (t : Option Tree)
    → IfOk (ok_or (edit_of own parents t) edit_fault.ClockFull) (IsWritten t)
edit_writes own parents t =
    made_ok (λ r. record { rev = r; content = t; making = Edit; parents = parents; current = true })
    (made_clock own parents) edit_fault.ClockFull (IsWritten t)
    (λ r. record { marked = refl; content = refl })

edited_writes : (d : Document) (c : Option Clock) (rev : Option Clock) (t : Tree) (own : Uid)
    → IfOk (edited_at c d rev t own) (IsWritten (Some t))
edited_writes d None None t own = edit_writes own [] (Some t)
edited_writes d None (Some r) t own = tt
edited_writes d (Some c) rev t own =
    unless (is_conflicted d) edit_fault.Conflicted _ (IsWritten (Some t)) (λ _.
    unless (not (names rev c (is_live d))) (edit_fault.RevisionConflict c) _ (IsWritten (Some t))
    (λ _. edit_writes own (c ∷ []) (Some t)))

pub put_reads : (seed : ℕ) (s new : State) (id : Text) (rev : Option Clock) (t : Tree) (answer : Clock)
    → IsDocument (s.document id)
    → IsAnswer (put_decides seed id rev t s) answer → new ≡ after_step s (step_in (put_decides seed id rev t s))
    → Reads new id answer t
put_reads seed s new id rev t answer is decided after =
    made_reads put_refusal seed s new id t s.uid answer (edited (s.document id) rev t s.uid)
    (edited_makes (s.document id) is rev t s.uid)
    (edited_writes (s.document id) (s.document id).current rev t s.uid) decided after

-- ---- a receipt

-- the document after the step of what was taken
after_take : (seed : ℕ) (s : State) (id : Text) (m : Move) (accepted : Option Accept)
    → (after_step s (take_step seed id m s accepted)).document id ≡ after_taken (s.document id) accepted
after_take seed s id m (Some a) = after_next seed s id a (Some m)
after_take seed s id m None = by (same_place m.at (kept_place s m))
  where
    by : (b : Bool) → (after_step s (if b then None else Some (Moved m))).document id ≡ s.document id
    by true = refl
    by false = refl

pub take_keeps : (seed : ℕ) (s new : State) (id : Text) (x : Member) (m : Move) (answer : Taken)
    → IsDocument (s.document id)
    → IsAnswer (take_decides seed id x true m s) answer
    → new ≡ after_step s (step_in (take_decides seed id x true m s)) → IsCovered new id x.rev
take_keeps seed s new id x m answer is = by (passes (kept_place s m) m.at)
  where
    by : (b : Bool) → IsAnswer
        (if b then take_answers seed id m s (decides (s.document id) x true s.uid) else Refuses
        (LogCheck (kept_place s m) m.at)) answer
        → new ≡ after_step s (step_in
        (if b then take_answers seed id m s (decides (s.document id) x true s.uid) else Refuses
        (LogCheck (kept_place s m) m.at))) → IsCovered new id x.rev
    by false decided after = absurd decided
    by true decided after =
        subst (λ (d : Document). (n : Member) × In n d.members × (covers n.rev x.rev ≡ true))
        (sym (ap (λ (t : State). t.document id) after
        ∙ after_take seed s id m (decides (s.document id) x true s.uid).accepted))
        ((law (s.document id) is x true s.uid).covered refl)
