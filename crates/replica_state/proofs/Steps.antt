-- The lists with the parts that are prepared for a step stand for the state after it.
use Rattle.std.proofs.Common.{◌≡◌, Bool, true, false, cond, not, ◌&&◌, List, [], ◌∷◌, ◌++◌, refl, sym, ◌∙◌, ap}
use Rattle.std.proofs.Common.{append-nil, Equal, Option, Some, None}
use Rattle.std.specs.Cmp.Lexicographic.{nat_list_cmp_total}
use Rattle.std.specs.FinMap.Entries.{find, put, find-put, find-where_key}
use Rattle.u1_base.specs.Ids.{id_cmp, same_id}
use Rattle.u1_base.specs.Places.{Place}
use Rattle.u1_base.proofs.SameIds.{id_tied, same_id-comm}
use Rattle.vector_rev.specs.Counts.{Uid}
use Rattle.conflicts.specs.Document.{Document, document_after, document_after_all}
use Rattle.conflicts.specs.Kept.{document}
use Rattle.conflicts.specs.Lists.{last_or}
use Rattle.conflicts.specs.State as history
use Rattle.conflicts.specs.State.{Text, accepts_in, after, entries_in, indexes_in, positions_by, positions_in}
use Rattle.conflicts.specs.State.{same_table, state_of}
use Rattle.conflicts.specs.declared.accept.Accept.{Accept}
use Rattle.conflicts.specs.declared.moves.Move.{Move}
use Rattle.conflicts.specs.declared.moves.PosTable.{PosTable}
use Rattle.conflicts.specs.declared.moves.PosTable.TheVariants.{Known, Told}
use Rattle.doc_table.specs.Listed.{without}
use Rattle.replica_state.specs.inner.Accepted.{IsDocumentAfter, IsIndexAfter}
use Rattle.replica_state.specs.Held.{Lists, Names, chosen, meaning_of}
use Rattle.replica_state.specs.Prepared.{docs_with, entries_with, lists_with, names_with, places_with}
use Rattle.replica_state.specs.declared.prepared.Parts.{Parts}
use Rattle.replica_state.specs.declared.prepared.Replacement.{Replacement}
use Rattle.replica_state.specs.declared.prepared.Replacement.TheVariants.{Nothing, Document as NewSet, NewIndex}
use Rattle.replica_state.specs.declared.prepared.Replacement.TheVariants.{NoIndex}

-- ---- answer by answer

-- two states are one where their answers are
pub by_answers : (l : Lists) (p : Parts) (x : history.Step) →
    ((d : Text) → document (find id_cmp d (docs_with p.replacement l.docs))
    ≡ document_after_all (document (find id_cmp d l.docs)) (accepts_in d x)) →
    entries_with p.entry l.log ≡ l.log ++ entries_in x →
    ((t : PosTable) (u : Uid)
    → find id_cmp u (chosen t (places_with Known p.moved l.known) (places_with Told p.moved l.told))
    ≡ last_or (find id_cmp u (chosen t l.known l.told)) (positions_in t u x)) →
    ((n : Text) → find id_cmp n (names_with p.replacement l.indexes)
    ≡ last_or (find id_cmp n l.indexes) (indexes_in n x)) →
    meaning_of (lists_with p l) ≡ after (meaning_of l) x
by_answers l p x documents log positions indexes = λ i. record {
  name = l.name;
  uid = l.uid;
  document = λ d. documents d i;
  log = log i;
  position = λ t u. positions t u i;
  index = λ n. indexes n i;
}

-- ---- the empty history

none_kept : (t : PosTable) (u : Uid) (known told : List (Uid × Place)) → known ≡ [] → told ≡ []
    → find id_cmp u (chosen t known told) ≡ None
none_kept Known u known told k o = ap (λ (places : List (Uid × Place)). find id_cmp u places) k
none_kept Told u known told k o = ap (λ (places : List (Uid × Place)). find id_cmp u places) o

pub empty_state : (l : Lists) → l.docs ≡ [] → l.log ≡ [] → l.known ≡ [] → l.told ≡ [] → l.indexes ≡ []
    → meaning_of l ≡ state_of l.name l.uid []
empty_state l docs log known told indexes = λ i. record {
  name = l.name;
  uid = l.uid;
  document = λ d. document (find id_cmp d (docs i));
  log = log i;
  position = λ t u. none_kept t u l.known l.told known told i;
  index = λ n. find id_cmp n (indexes i);
}

-- ---- positions

put_place : (u : Uid) (m : Move) (places : List (Uid × Place))
    → find id_cmp u (put id_cmp m.uid m.at places)
    ≡ last_or (find id_cmp u places) (cond (same_id u m.uid) (Some m.at ∷ []) [])
put_place u m places =
    find-put id_cmp nat_list_cmp_total u m.uid m.at places
    ∙ elim (same_id u m.uid) as
    (λ (b : Bool). cond b (Some m.at) (find id_cmp u places)
    ≡ last_or (find id_cmp u places) (cond b (Some m.at ∷ []) [])) [ true ↦ refl | false ↦ refl ]

moved_in : (t : PosTable) (u : Uid) (m : Move) (table : PosTable) (known told : List (Uid × Place)) →
    find id_cmp u (chosen t (cond (same_table Known table) (put id_cmp m.uid m.at known) known)
    (cond (same_table Told table) (put id_cmp m.uid m.at told) told))
    ≡ last_or (find id_cmp u (chosen t known told)) (cond (same_table t table && same_id u m.uid) (Some m.at ∷ []) [])
moved_in Known u m Known known told = put_place u m known
moved_in Known u m Told known told = refl
moved_in Told u m Known known told = refl
moved_in Told u m Told known told = put_place u m told

pub placed : (t : PosTable) (u : Uid) (moved : Option Move) (known told : List (Uid × Place)) →
    find id_cmp u (chosen t (places_with Known moved known) (places_with Told moved told))
    ≡ last_or (find id_cmp u (chosen t known told)) (positions_by t u moved)
placed t u None known told = refl
placed t u (Some m) known told = moved_in t u m m.table known told

-- ---- indexes

pub put_name : (n m : Text) (exprs : List Text) (names : Names)
    → find id_cmp n (put id_cmp m exprs names) ≡ last_or (find id_cmp n names) (cond (same_id n m) (Some exprs ∷ []) [])
put_name n m exprs names =
    find-put id_cmp nat_list_cmp_total n m exprs names
    ∙ elim (same_id n m) as (λ (b : Bool). cond b (Some exprs) (find id_cmp n names)
    ≡ last_or (find id_cmp n names) (cond b (Some exprs ∷ []) [])) [ true ↦ refl | false ↦ refl ]

-- an id that ties with the asked one passes the test as that one does
alike : (n m other : Text) → id_cmp n other ≡ Equal → not (same_id m other) ≡ not (same_id m n)
alike n m other e = ap (λ (i : Text). not (same_id m i)) (sym (id_tied n other e))

pub drop_name : (n m : Text) (names : Names)
    → find id_cmp n (without m names) ≡ last_or (find id_cmp n names) (cond (same_id n m) (None ∷ []) [])
drop_name n m names =
    find-where_key id_cmp (λ other. not (same_id m other)) n (λ other e. alike n m other e) names
    ∙ ap (λ (b : Bool). cond (not b) (find id_cmp n names) None) (same_id-comm m n)
    ∙ elim (same_id n m) as (λ (b : Bool). cond (not b) (find id_cmp n names) None
    ≡ last_or (find id_cmp n names) (cond b (None ∷ []) [])) [ true ↦ refl | false ↦ refl ]

-- ---- step by step

pub accept_parts : (l : Lists) (r : Replacement) (doc : Text) (a : Accept) (trans : Text) (moved : Option Move)
    → IsDocumentAfter l.docs doc a r →
    meaning_of (lists_with (record {
      replacement = r;
      entry = Some (record { doc = doc; trans = trans });
      moved =
          moved;
    }) l) ≡ after (meaning_of l) (history.Accepted doc a trans moved)
accept_parts l r doc a trans moved is =
    by_answers l (record { replacement = r; entry = Some (record { doc = doc; trans = trans }); moved = moved })
    (history.Accepted doc a trans moved)
    (λ d. is.documents d ∙ chosen_document d (document (find id_cmp d l.docs)))
    refl
    (λ t u. placed t u moved l.known l.told)
    (λ n. ap (λ (names : Names). find id_cmp n names) (is.indexes l.indexes))
  where
    chosen_document : (d : Text) (old : Document)
        → cond (same_id d doc) (document_after old a) old ≡ document_after_all old (cond (same_id d doc) (a ∷ []) [])
    chosen_document d old = elim (same_id d doc) as
        (λ (b : Bool). cond b (document_after old a) old ≡ document_after_all old (cond b (a ∷ []) [])) [
          | true ↦ refl
          | false ↦ refl
        ]

pub gone_parts : (l : Lists) (doc trans : Text) (moved : Option Move) →
    meaning_of (lists_with (record {
      replacement = Nothing;
      entry = Some (record { doc = doc; trans = trans });
      moved =
          moved;
    }) l) ≡ after (meaning_of l) (history.Gone doc trans moved)
gone_parts l doc trans moved =
    by_answers l (record { replacement = Nothing; entry = Some (record { doc = doc; trans = trans }); moved = moved })
    (history.Gone doc trans moved)
    (λ d. refl) refl (λ t u. placed t u moved l.known l.told) (λ n. refl)

pub move_parts : (l : Lists) (m : Move) →
    meaning_of (lists_with (record { replacement = Nothing; entry = None; moved = Some m }) l)
    ≡ after (meaning_of l) (history.Moved m)
move_parts l m =
    by_answers l (record { replacement = Nothing; entry = None; moved = Some m }) (history.Moved m)
    (λ d. refl) (sym (append-nil l.log)) (λ t u. placed t u (Some m) l.known l.told) (λ n. refl)

pub create_parts : (l : Lists) (r : Replacement) (n : Text) (exprs : List Text) → IsIndexAfter n exprs r →
    meaning_of (lists_with (record { replacement = r; entry = None; moved = None }) l)
    ≡ after (meaning_of l) (history.IndexCreated n exprs)
create_parts l Nothing n exprs is = absurd is
create_parts l (NewSet id set changes) n exprs is = absurd is
create_parts l (NewIndex index) n exprs is =
    by_answers l (record { replacement = NewIndex index; entry = None; moved = None }) (history.IndexCreated n exprs)
    (λ d. refl) (sym (append-nil l.log)) (λ t u. placed t u None l.known l.told)
    (λ k. put_name k index.name index.exprs.texts l.indexes
    ∙ (λ i. last_or (find id_cmp k l.indexes) (cond (same_id k (is.0 i)) (Some (is.1 i) ∷ []) [])))
create_parts l (NoIndex other) n exprs is = absurd is

pub delete_parts : (l : Lists) (n : Text) →
    meaning_of (lists_with (record { replacement = NoIndex n; entry = None; moved = None }) l)
    ≡ after (meaning_of l) (history.IndexDeleted n)
delete_parts l n =
    by_answers l (record { replacement = NoIndex n; entry = None; moved = None }) (history.IndexDeleted n)
    (λ d. refl) (sym (append-nil l.log)) (λ t u. placed t u None l.known l.told) (λ k. drop_name k n l.indexes)
