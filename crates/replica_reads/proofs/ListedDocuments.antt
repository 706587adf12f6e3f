-- Which ids are listed, by what is got at them.
use Rattle.std.proofs.Common.{◌≡◌, Bool, true, false, cond, ◌||◌, T, List, [], ◌∷◌, map, refl, sym, ◌∙◌, ap, arith}
use Rattle.std.proofs.Common.{Less, Option, Some, None}
use Rattle.std.proofs.lemmas.List.Elements.{All-cons, All-nil}
use Rattle.std.proofs.lemmas.List.Kept.{AllPairs-cons}
use Rattle.std.specs.Bool.{passes}
use Rattle.std.specs.FinMap.Entries.{below_all, find, is_sorted}
use Rattle.std.specs.List.{All, AllPairs, list_any}
use Rattle.std.specs.Ordering.{is_lt}
use Rattle.std.specs.Prelude.{is_some}
use Rattle.u1_base.specs.Ids.{id_cmp, same_id}
use Rattle.u1_base.proofs.Booleans.{first, second}
use Rattle.u1_base.proofs.SameIds.{same_id_is}
use Rattle.conflicts.specs.Document.{current_member}
use Rattle.conflicts.specs.Kept.{Kept, document}
use Rattle.conflicts.specs.State.{Text}
use Rattle.replica_state.specs.Keyed.{Docs}
use Rattle.replica_reads.specs.Documents.{got, ids_of, is_listed}
use Rattle.replica_reads.proofs.AnswersBy.{is_below, none_above}
use Rattle.replica_reads.proofs.Listing.{listed}
use Rattle.replica_reads.proofs.SortedOnce.{is_true}

nothing_got : (deleted : Bool) → is_some (got deleted (document None)) ≡ false
nothing_got deleted = by (is_listed deleted (document None))
  where
    by : (b : Bool) → is_some (cond b (current_member (document None)) None) ≡ false
    by true = refl
    by false = refl

-- the first document, and those behind it
first_below : {V : Type 0} (d : Text × V) (docs : List (Text × V)) → T (is_sorted id_cmp (d ∷ docs))
    → below_all id_cmp d.0 docs ≡ true
first_below d docs sorted = first (below_all id_cmp d.0 docs) (is_sorted id_cmp docs) (is_true _ sorted)

rest_sorted : {V : Type 0} (d : Text × V) (docs : List (Text × V)) → T (is_sorted id_cmp (d ∷ docs))
    → T (is_sorted id_cmp docs)
rest_sorted d docs sorted = passes (is_sorted id_cmp docs)
    (second (below_all id_cmp d.0 docs) (is_sorted id_cmp docs) (is_true _ sorted))

pub listed_members : (deleted : Bool) (docs : Docs) (id : Text) → T (is_sorted id_cmp docs)
    → list_any (same_id id) (ids_of deleted docs) ≡ is_some (got deleted (document (find id_cmp id docs)))
listed_members deleted [] id sorted = sym (nothing_got deleted)
listed_members deleted (d ∷ docs) id sorted =
    by (same_id id d.0) refl (is_listed deleted (document (Some d.1))) refl
    (listed_members deleted docs id (rest_sorted d docs sorted))
  where
    by : (e : Bool) → same_id id d.0 ≡ e → (b : Bool) → is_listed deleted (document (Some d.1)) ≡ b
        → list_any (same_id id) (ids_of deleted docs) ≡ is_some (got deleted (document (find id_cmp id docs)))
        → list_any (same_id id) (map (λ x. x.0) (cond b (d ∷ listed deleted docs) (listed deleted docs)))
        ≡ is_some (got deleted (document (cond e (Some d.1) (find id_cmp id docs))))
    by true is true there rest =
        ap (λ (b : Bool). b || list_any (same_id id) (ids_of deleted docs)) is
        ∙ sym (ap (λ (b : Bool). is_some (cond b (current_member (document (Some d.1))) None)) there)
    by true is false apart rest =
        rest
        ∙ ap (λ (o : Option Kept). is_some (got deleted (document o)))
        (ap (λ (i : Text). find id_cmp i docs) (same_id_is id d.0 is) ∙ none_above d.0 docs (first_below d docs sorted))
        ∙ nothing_got deleted
        ∙ sym (ap (λ (b : Bool). is_some (cond b (current_member (document (Some d.1))) None)) apart)
    by false other true there rest = ap (λ (b : Bool). b || list_any (same_id id) (ids_of deleted docs)) other ∙ rest
    by false other false apart rest = rest

above : (deleted : Bool) (id : Text) (docs : Docs) → below_all id_cmp id docs ≡ true
    → All (λ later. id_cmp id later ≡ Less) (ids_of deleted docs)
above deleted id [] below = All-nil (λ later. id_cmp id later ≡ Less)
above deleted id (d ∷ docs) below = by (is_listed deleted (document (Some d.1)))
    (above deleted id docs (second (is_lt (id_cmp id d.0)) (below_all id_cmp id docs) below))
  where
    by : (b : Bool) → All (λ later. id_cmp id later ≡ Less) (ids_of deleted docs)
        → All (λ later. id_cmp id later ≡ Less)
        (map (λ x. x.0) (cond b (d ∷ listed deleted docs) (listed deleted docs)))
    by true rest = All-cons (λ later. id_cmp id later ≡ Less) d.0 (ids_of deleted docs)
        (is_below (id_cmp id d.0) (first (is_lt (id_cmp id d.0)) (below_all id_cmp id docs) below)) rest
    by false rest = rest

pub listed_rises : (deleted : Bool) (docs : Docs) → T (is_sorted id_cmp docs)
    → AllPairs (λ id later. id_cmp id later ≡ Less) (ids_of deleted docs)
listed_rises deleted [] sorted = λ i j d lt le. absurd (omega arith)
listed_rises deleted (d ∷ docs) sorted = by (is_listed deleted (document (Some d.1)))
    (listed_rises deleted docs (rest_sorted d docs sorted))
  where
    by : (b : Bool) → AllPairs (λ id later. id_cmp id later ≡ Less) (ids_of deleted docs)
        → AllPairs (λ id later. id_cmp id later ≡ Less)
        (map (λ x. x.0) (cond b (d ∷ listed deleted docs) (listed deleted docs)))
    by true rest = AllPairs-cons (λ id later. id_cmp id later ≡ Less) d.0 (ids_of deleted docs)
        (above deleted d.0 docs (first_below d docs sorted)) rest
    by false rest = rest
