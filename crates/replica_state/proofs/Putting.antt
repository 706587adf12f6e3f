-- The documents after an acceptance.
use Rattle.std.proofs.Common.{◌≡◌, Bool, true, false, cond, refl, sym, subst, ◌∙◌, ap, Option, Some, None}
use Rattle.std.specs.Cmp.Lexicographic.{nat_list_cmp_total}
use Rattle.std.specs.FinMap.Entries.{find, put, find-put}
use Rattle.u1_base.specs.Ids.{id_cmp, same_id}
use Rattle.u1_base.proofs.SameIds.{same_id_is}
use Rattle.conflicts.specs.Document.{document_after}
use Rattle.conflicts.specs.Kept.{Kept, document}
use Rattle.conflicts.specs.State.{Text}
use Rattle.conflicts.specs.declared.accept.Accept.{Accept}
use Rattle.replica_state.specs.inner.Accepted.{HaveAccepted, IsDocumentAfter, IsSetPut}
use Rattle.replica_state.specs.Keyed.{Docs}
use Rattle.replica_state.specs.inner.Sets.{IsSetAfter}
use Rattle.replica_state.specs.declared.prepared.Replacement.{Replacement}
use Rattle.replica_state.specs.declared.prepared.Replacement.TheVariants.{Nothing, Document as NewSet, NewIndex}
use Rattle.replica_state.specs.declared.prepared.Replacement.TheVariants.{NoIndex}
use Rattle.std.specs.Prelude.{Result, Ok, Err, IfOk}

-- where the acceptance changes nothing
pub unchanged : (docs : Docs) (doc d : Text) (a : Accept)
    → document_after (document (find id_cmp doc docs)) a ≡ document (find id_cmp doc docs)
    → document (find id_cmp d docs) ≡ cond (same_id d doc) (document_after (document (find id_cmp d docs)) a)
    (document (find id_cmp d docs))
unchanged docs doc d a same = elim (same_id d doc) as
    (λ (b : Bool). same_id d doc ≡ b → document (find id_cmp d docs)
    ≡ cond b (document_after (document (find id_cmp d docs)) a) (document (find id_cmp d docs))) [
      | true ↦ λ e. ap (λ (i : Text). document (find id_cmp i docs)) (same_id_is d doc e) ∙ sym same
          ∙ ap (λ (i : Text). document_after (document (find id_cmp i docs)) a) (sym (same_id_is d doc e))
      | false ↦ λ e. refl
    ] refl

-- where it leaves a set
pub changed : (docs : Docs) (doc id d : Text) (a : Accept) (set : Kept) → id ≡ doc
    → document (Some set) ≡ document_after (document (find id_cmp doc docs)) a
    → document (find id_cmp d (put id_cmp id set docs))
    ≡ cond (same_id d doc) (document_after (document (find id_cmp d docs)) a) (document (find id_cmp d docs))
changed docs doc id d a set same is =
    ap document (find-put id_cmp nat_list_cmp_total d id set docs)
    ∙ ap (λ (i : Text). document (cond (same_id d i) (Some set) (find id_cmp d docs))) same
    ∙ elim (same_id d doc) as (λ (b : Bool). same_id d doc ≡ b
    → document (cond b (Some set) (find id_cmp d docs))
    ≡ cond b (document_after (document (find id_cmp d docs)) a) (document (find id_cmp d docs))) [
      | true ↦ λ e. is ∙ ap (λ (i : Text). document_after (document (find id_cmp i docs)) a) (sym (same_id_is d doc e))
      | false ↦ λ e. refl
    ] refl

-- the same where the set is put at once
pub accepted_set : (olds docs news : Docs) (doc : Text) (a : Accept) (set : Kept) (o : Option Kept) → docs ≡ olds
    → o ≡ find id_cmp doc docs → IsSetAfter (document o) a (Some set) → news ≡ put id_cmp doc set docs
    → HaveAccepted olds doc a news
accepted_set olds docs news doc a set o same there is put d =
    ap (λ (l : Docs). document (find id_cmp d l)) put
    ∙ changed docs doc doc d a set refl (is ∙ ap (λ (p : Option Kept). document_after (document p) a) there)
    ∙ ap (λ (l : Docs). cond (same_id d doc) (document_after (document (find id_cmp d l)) a)
    (document (find id_cmp d l))) same

pub accepted_none : (olds docs : Docs) (doc : Text) (a : Accept) (o : Option Kept) → docs ≡ olds
    → o ≡ find id_cmp doc docs → IsSetAfter (document o) a None → HaveAccepted olds doc a docs
accepted_none olds docs doc a o same there is d =
    unchanged docs doc d a (subst (λ (p : Option Kept). document_after (document p) a ≡ document p) there is)
    ∙ ap (λ (l : Docs). cond (same_id d doc) (document_after (document (find id_cmp d l)) a)
    (document (find id_cmp d l))) same

-- the same as a replacement
put_after : (docs olds : Docs) (doc : Text) (a : Accept) (set : Kept) (o : Option Kept) (r : Replacement) → docs ≡ olds
    → o ≡ find id_cmp doc olds → document (Some set) ≡ document_after (document o) a → IsSetPut doc set r
    → IsDocumentAfter docs doc a r
put_after docs olds doc a set o Nothing same there is put = absurd put
put_after docs olds doc a set o (NewSet id kept changes) same there is put = record {
  documents = λ d. changed docs doc id d a kept put.0
      (ap (λ (k : Kept). document (Some k)) put.1 ∙ is
      ∙ ap (λ (p : Option Kept). document_after (document p) a)
      (there ∙ ap (λ (l : Docs). find id_cmp doc l) (sym same)));
  indexes = λ names. refl;
}
put_after docs olds doc a set o (NewIndex index) same there is put = absurd put
put_after docs olds doc a set o (NoIndex name) same there is put = absurd put

pub ok_put : {E : Type 0} (r : Result Replacement E) (docs olds : Docs) (doc : Text) (a : Accept) (set : Kept)
    (o : Option Kept) → docs ≡ olds → o ≡ find id_cmp doc olds → document (Some set) ≡ document_after (document o) a
    → IfOk r (IsSetPut doc set) → IfOk r (IsDocumentAfter docs doc a)
ok_put (Ok r) docs olds doc a set o same there is put = put_after docs olds doc a set o r same there is put
ok_put (Err e) docs olds doc a set o same there is put = put
