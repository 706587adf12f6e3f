-- The documents that are listed.
use Rattle.std.proofs.Common.{◌≡◌, ℕ, ◌+◌, ◌≤◌, Bool, true, false, cond, ◌||◌, List, [], ◌∷◌, ◌++◌, length, filter, map}
use Rattle.std.proofs.Common.{take, refl, sym, ◌∙◌, ap, Option, Some, None}
use Rattle.std.proofs.lemmas.List.{take_all}
use Rattle.std.specs.Prelude.{is_some, slice_get}
use Rattle.std.specs.FinMap.Entries.{find}
use Rattle.doc_table.proofs.Walking.{taken_more}
use Rattle.u1_base.specs.Ids.{id_cmp}
use Rattle.index_tables.specs.Documents.{keys_at}
use Rattle.conflicts.specs.Document.{content_of, current_member, is_live}
use Rattle.conflicts.specs.Kept.{Kept, current, document}
use Rattle.conflicts.specs.State.{Text}
use Rattle.conflicts.proofs.Sets.{content_kept, member_kept}
use Rattle.replica_state.specs.Keyed.{Docs, keyed, keys_in, keys_there}
use Rattle.replica_state.proofs.DocumentKeys.{keys_at_keyed}
use Rattle.replica_reads.specs.Documents.{got, ids_of, is_listed}

-- a kept document is live where its current member has a content
pub live_kept : (kept : Kept) → is_live (document (Some kept)) ≡ is_some (current kept).content
live_kept kept = ap is_some (content_kept kept)

-- it is listed where it is live and deleted ones are not asked for
pub listed_live : (deleted : Bool) (kept : Kept) → deleted ≡ false
    → is_some (current kept).content ≡ is_listed deleted (document (Some kept))
listed_live deleted kept e = sym (live_kept kept) ∙ ap (λ (b : Bool). b || is_live (document (Some kept))) (sym e)

-- what is got of a kept document that is listed
pub got_listed : (deleted : Bool) (kept : Kept) → is_listed deleted (document (Some kept)) ≡ true
    → got deleted (document (Some kept)) ≡ Some (current kept)
got_listed deleted kept e = ap (λ (b : Bool). cond b (current_member (document (Some kept))) None) e ∙ member_kept kept

abbrev pub listed : Bool → Docs → Docs
listed deleted docs = filter (λ (d : Text × Kept). is_listed deleted (document (Some d.1))) docs

listed_last : (deleted : Bool) (docs : Docs) (id : Text) (kept : Kept)
    → ids_of deleted (docs ++ (id, kept) ∷ []) ≡ ids_of deleted docs
    ++ cond (is_listed deleted (document (Some kept))) (id ∷ []) []
listed_last deleted [] id kept = alone (is_listed deleted (document (Some kept)))
  where
    alone : (b : Bool) → map (λ (d : Text × Kept). d.0) (cond b ((id, kept) ∷ []) []) ≡ cond b (id ∷ []) []
    alone true = refl
    alone false = refl
listed_last deleted (d ∷ docs) id kept = behind (is_listed deleted (document (Some d.1)))
    (listed_last deleted docs id kept)
  where
    behind : (b : Bool) → ids_of deleted (docs ++ (id, kept) ∷ []) ≡ ids_of deleted docs
        ++ cond (is_listed deleted (document (Some kept))) (id ∷ []) []
        → map (λ (e : Text × Kept). e.0)
        (cond b (d ∷ listed deleted (docs ++ (id, kept) ∷ [])) (listed deleted (docs ++ (id, kept) ∷ [])))
        ≡ map (λ (e : Text × Kept). e.0) (cond b (d ∷ listed deleted docs) (listed deleted docs))
        ++ cond (is_listed deleted (document (Some kept))) (id ∷ []) []
    behind true rest = ap (λ (l : List Text). d.0 ∷ l) rest
    behind false rest = rest

module _ (deleted : Bool) (docs : Docs) (place : ℕ) (ids : List Text)
    (is : ids ≡ ids_of deleted (take place docs)) where
  pub one_more : (id : Text) (kept : Kept) (more : List Text) → Some (id, kept) ≡ slice_get docs place
      → more ≡ ids ++ cond (is_listed deleted (document (Some kept))) (id ∷ []) []
      → more ≡ ids_of deleted (take (place + 1) docs)
  one_more id kept more at pushed =
      pushed
      ∙ ap (λ (l : List Text). l ++ cond (is_listed deleted (document (Some kept))) (id ∷ []) []) is
      ∙ sym (listed_last deleted (take place docs) id kept)
      ∙ ap (ids_of deleted) (sym (taken_more docs place (id, kept) at))

  pub all_of_them : length docs ≤ place → ids ≡ ids_of deleted docs
  all_of_them past = is ∙ ap (ids_of deleted) (take_all place docs past)

-- the keys of a document are those of its content
pub contents : (exprs : List Text) (docs : Docs) (id : Text)
    → keys_at (keyed exprs docs) id ≡ keys_in exprs (content_of (document (find id_cmp id docs)))
contents exprs docs id = keys_at_keyed exprs docs id ∙ by (find id_cmp id docs)
  where
    by : (o : Option Kept) → keys_there exprs o ≡ keys_in exprs (content_of (document o))
    by None = refl
    by (Some kept) = ap (keys_in exprs) (sym (content_kept kept))
