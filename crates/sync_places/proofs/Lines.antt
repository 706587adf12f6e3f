-- What the steps of one document and of one move leave, by the definitions that both sides use.
use Rattle.std.specs.Prelude.{◌≡◌, ◌≢◌, ℕ, ◌+◌, ◌≤◌, Bool, true, false, cond, ◌&&◌, if◌then◌else◌, []}
use Rattle.std.specs.Prelude.{◌∷◌, length, option_to_list, Option, Some, None, is_some, unwrap_or, refl}
use Rattle.std.proofs.Common.{sym, ◌∙◌, ap, subst, inl, inr, arith, append-nil, length-append}
use Rattle.u1_base.specs.Ids.{same_id}
use Rattle.u1_base.specs.Places.{Place, nowhere, same_place}
use Rattle.u1_base.proofs.Booleans.{both, none_true}
use Rattle.u1_base.proofs.SameIds.{same_id_is, same_id-itself}
use Rattle.u1_base.proofs.SamePlaces.{same_place_is}
use Rattle.translog.specs.Source.{passes}
use Rattle.translog.specs.declared.entry.Entry.{Entry}
use Rattle.translog.proofs.PlaceTests.{goes_on}
use Rattle.vector_rev.specs.Counts.{Uid}
use Rattle.conflicts.specs.Document.{Document, document_after_all}
use Rattle.conflicts.specs.Lists.{last_or}
use Rattle.conflicts.specs.Receipts.{after_taken}
use Rattle.conflicts.specs.State.{State, Step, Text, Accepted, Moved, after, after_all, move_of, position_kept}
use Rattle.conflicts.specs.State.{same_table}
use Rattle.conflicts.specs.Writing.{kept_place, next_trans, take_step}
use Rattle.conflicts.specs.declared.accept.Accept.{Accept}
use Rattle.conflicts.specs.declared.moves.Move.{Move}
use Rattle.conflicts.specs.declared.moves.PosTable.{PosTable}
use Rattle.conflicts.proofs.LeftByReceipts as receipts
use Rattle.sync_stream.specs.Serving.{steps_for, steps_to, taken_of}
use Rattle.sync_stream.specs.declared.line.SyncDoc.{SyncDoc}
use Rattle.sync_places.specs.inner.Last.{last_in, last_of}
use Rattle.sync_places.specs.inner.Facts.{CoversRev, NotOlder, AllDocuments, Later, MovesOn}
use Rattle.sync_places.proofs.LastPlaces.{last_in-push}
use Rattle.sync_places.proofs.Laters.{kept_after, later_after, later_itself, same_table-itself}

-- a place that passes is not before the kept one
pub passes_on : (kept to : Place) → passes kept to ≡ true → kept.generation ≤ to.generation
passes_on kept to ok = elim ((goes_on kept to).1 ok) [
  | inl less ↦ omega (arith, less)
  | inr same ↦ omega (arith, same.0)
]

-- ---- a move alone

-- the place is kept, and nothing else changed
pub record MovedTo (s t : State) (m : Move) : Type 0 where
  pub later : Later s t
  pub log : length t.log ≡ length s.log
  pub documents : (d : Text) → (t.document d ≡ s.document d) × (last_of t d ≡ last_of s d)
  pub kept : position_kept t m.table m.uid ≡ m.at
  pub others : (table : PosTable) (u : Uid) → (same_table table m.table && same_id u m.uid) ≡ false
      → position_kept t table u ≡ position_kept s table u

kept_by : (s : State) (m : Move) → kept_after s m.table m.uid (Some m) ≡ m.at
kept_by s m =
    ap (λ b. unwrap_or (last_or (s.position m.table m.uid) (cond b (Some m.at ∷ []) [])) nowhere)
    (both (same_table m.table m.table) (same_id m.uid m.uid) (same_table-itself m.table) (same_id-itself m.uid))

others_by : (s : State) (m : Move) (table : PosTable) (u : Uid)
    → (same_table table m.table && same_id u m.uid) ≡ false
    → kept_after s table u (Some m) ≡ position_kept s table u
others_by s m table u other =
    ap (λ b. unwrap_or (last_or (s.position table u) (cond b (Some m.at ∷ []) [])) nowhere) other

same_move : (x y : Move) → Some x ≡ Some y → x ≡ y
same_move x y e = cc

moves_on : (s : State) (x : Step) (m : Move) → move_of x ≡ Some m
    → (position_kept s m.table m.uid).generation ≤ m.at.generation → MovesOn s x
moves_on s x m is up k e =
    subst (λ (z : Move). (position_kept s z.table z.uid).generation ≤ z.at.generation)
    (same_move m k (sym is ∙ e)) up

moved_there : (s : State) (m : Move) → (position_kept s m.table m.uid).generation ≤ m.at.generation
    → MovedTo s (after s (Moved m)) m
moved_there s m up = record {
  later = later_after s (Moved m) (moves_on s (Moved m) m refl up);
  log = ap length (append-nil s.log);
  documents = λ d. (refl, ap (λ es. last_in es d) (append-nil s.log));
  kept = kept_by s m;
  others = λ table u other. others_by s m table u other;
}

moved_nowhere : (s : State) (m : Move) → m.at ≡ position_kept s m.table m.uid → MovedTo s s m
moved_nowhere s m is = record {
  later = later_itself s;
  log = refl;
  documents = λ d. (refl, refl);
  kept = sym is;
  others = λ table u other. refl;
}

pub moved_to : (s : State) (m : Move) → passes (kept_place s m) m.at ≡ true
    → MovedTo s (after_all s (steps_to s m)) m
moved_to s m ok =
    elim (same_place m.at (kept_place s m)) as
    (λ b. same_place m.at (kept_place s m) ≡ b
    → MovedTo s (after_all s (option_to_list (if b then None else Some (Moved m)))) m) [
      | true ↦ λ t. moved_nowhere s m (same_place_is m.at (kept_place s m) t)
      | false ↦ λ _. moved_there s m (passes_on (kept_place s m) m.at ok)
    ] refl

-- ---- a document with its move

pub record Leaves (s t : State) (doc : SyncDoc) (o : Option Accept) (m : Move) : Type 0 where
  pub later : Later s t
  pub here : t.document doc.id ≡ after_taken (s.document doc.id) o
  pub elsewhere : (d : Text) → d ≢ doc.id → (t.document d ≡ s.document d) × (last_of t d ≡ last_of s d)
  pub same : o ≡ None → (d : Text) → (t.document d ≡ s.document d) × (last_of t d ≡ last_of s d)
  pub log : length t.log ≡ length s.log + (if is_some o then 1 else 0)
  pub kept : position_kept t m.table m.uid ≡ m.at
  pub others : (table : PosTable) (u : Uid) → (same_table table m.table && same_id u m.uid) ≡ false
      → position_kept t table u ≡ position_kept s table u

plus_zero : (n : ℕ) → n ≡ n + 0
plus_zero n = omega arith

leaves_moved : (s t : State) (doc : SyncDoc) (m : Move) → MovedTo s t m → Leaves s t doc None m
leaves_moved s t doc m h = record {
  later = h.later;
  here = (h.documents doc.id).0;
  elsewhere = λ d _. h.documents d;
  same = λ _ d. h.documents d;
  log = h.log ∙ plus_zero (length s.log);
  kept = h.kept;
  others = h.others;
}

some_none : {A : Type 0} {x : A} → Some x ≡ None → ⊥
some_none e = cc

leaves_accepted : (s : State) (doc : SyncDoc) (m : Move) (a : Accept) (trans : Text)
    → (position_kept s m.table m.uid).generation ≤ m.at.generation
    → Leaves s (after s (Accepted doc.id a trans (Some m))) doc (Some a) m
leaves_accepted s doc m a trans up =
    let entry : Entry = record { doc = doc.id; trans = trans } in
    record {
      later =
          later_after s (Accepted doc.id a trans (Some m)) (moves_on s (Accepted doc.id a trans (Some m)) m refl up);
      here = ap (λ b. document_after_all (s.document doc.id) (cond b (a ∷ []) [])) (same_id-itself doc.id);
      elsewhere = λ d other.
          let apart = none_true (same_id d doc.id) (λ t. other (same_id_is d doc.id t)) in (
            ap (λ b. document_after_all (s.document d) (cond b (a ∷ []) [])) apart,
            last_in-push s.log entry d ∙ ap (λ b. cond b (1 + length s.log) (last_of s d)) apart,
          );
      same = λ none. absurd (some_none none);
      log = length-append s.log (entry ∷ []);
      kept = kept_by s m;
      others = λ table u other. others_by s m table u other;
    }

pub leaves : (s : State) (seed : ℕ) (save : Bool) (doc : SyncDoc) (m : Move) → passes (kept_place s m) m.at ≡ true
    → Leaves s (after_all s (steps_for s seed save doc m)) doc (taken_of s doc save).accepted m
leaves s seed save doc m ok = by (taken_of s doc save).accepted
  where
    by : (o : Option Accept) → Leaves s (after_all s (option_to_list (take_step seed doc.id m s o))) doc o m
    by None = leaves_moved s (after_all s (steps_to s m)) doc m (moved_to s m ok)
    by (Some a) = leaves_accepted s doc m a (next_trans seed s) (passes_on (kept_place s m) m.at ok)

-- ---- the document after it

pub covered_then : (s t : State) (doc : SyncDoc) (m : Move) → AllDocuments s
    → Leaves s t doc (taken_of s doc true).accepted m → CoversRev (t.document doc.id) doc.member.rev
covered_then s t doc m documents l =
    subst (λ (z : Document). CoversRev z doc.member.rev) (sym l.here)
    ((receipts.law (s.document doc.id) (documents doc.id) doc.member true s.uid).covered refl)

pub not_older_then : (s t : State) (doc : SyncDoc) (save : Bool) (m : Move) → AllDocuments s
    → Leaves s t doc (taken_of s doc save).accepted m → NotOlder (t.document doc.id) doc.member.rev
not_older_then s t doc save m documents l =
    subst (λ (z : Document). NotOlder z doc.member.rev) (sym l.here)
    (receipts.law (s.document doc.id) (documents doc.id) doc.member save s.uid).not_older
