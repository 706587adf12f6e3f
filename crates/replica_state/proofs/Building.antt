-- The pairs of all documents, gathered document by document.
use Rattle.std.proofs.Common.{◌≡◌, ℕ, zero, suc, ◌+◌, ◌≤◌, T, List, [], ◌∷◌, length, take, sym, subst, ◌∙◌, ap, arith}
use Rattle.std.proofs.Common.{Some, None}
use Rattle.std.proofs.lemmas.List.{take_all}
use Rattle.std.specs.Prelude.{Result, Ok, Err, IfOk, slice_get}
use Rattle.std.specs.FinMap.Entries.{find, is_sorted}
use Rattle.conflicts.specs.Kept.{Kept}
use Rattle.conflicts.specs.State.{Text}
use Rattle.doc_table.proofs.Walking.{not_before, taken_more}
use Rattle.index_tables.specs.Documents.{Documents, IsTableOf}
use Rattle.index_tables.specs.Entries.{AreNew, HoldsBoth, entries_of}
use Rattle.index_tables.specs.Order.{Entry, Key}
use Rattle.index_tables.specs.Table.{Indexed}
use Rattle.index_tables.proofs.Documents.{new_document, push_table}
use Rattle.u1_base.specs.Ids.{id_cmp}
use Rattle.replica_state.specs.Keyed.{Docs, keyed, keys_of_kept}
use Rattle.replica_state.proofs.DocumentKeys.{none_keyed, push_keyed}

module _ (exprs : List Text) (docs : Docs) (sorted : T (is_sorted id_cmp docs)) (place : ℕ) (id : Text) (kept : Kept)
    (at : Some (id, kept) ≡ slice_get docs place) (entries : List Entry)
    (t : IsTableOf (keyed exprs (take place docs)) entries) where
  none : find id_cmp id (keyed exprs (take place docs)) ≡ None
  none = none_keyed exprs (take place docs) id (not_before docs place id kept sorted at)

  pub next_fresh : (keys : List Key) → AreNew entries (entries_of id keys)
  next_fresh keys = new_document (keyed exprs (take place docs)) entries id t none keys

  pub next_table : (keys : List Key) (new : List Entry) → keys ≡ keys_of_kept exprs kept
      → HoldsBoth entries (entries_of id keys) new → IsTableOf (keyed exprs (take (place + 1) docs)) new
  next_table keys new is both =
      subst (λ (ds : Documents). IsTableOf ds new)
      (sym (ap (keyed exprs) (taken_more docs place (id, kept) at) ∙ push_keyed exprs (take place docs) id kept))
      (push_table (keyed exprs (take place docs)) entries id t none (keys_of_kept exprs kept) new
      (subst (λ (ks : List Key). HoldsBoth entries (entries_of id ks) new) is both))

-- past the end there is nothing more
pub past_end : (docs : Docs) (place : ℕ) → None ≡ slice_get docs place → length docs ≤ place
past_end [] place is = omega arith
past_end (d ∷ docs) zero is = absurd (cc)
past_end (d ∷ docs) (suc place) is = omega (arith, past_end docs place is)

pub whole : (exprs : List Text) (docs : Docs) (place : ℕ) (entries : List Entry) → length docs ≤ place
    → IsTableOf (keyed exprs (take place docs)) entries → IsTableOf (keyed exprs docs) entries
whole exprs docs place entries all t = subst (λ (ds : Docs). IsTableOf (keyed exprs ds) entries)
    (take_all place docs all) t

-- a table that holds the pairs and no others
pub ok_table : {E : Type 0} (r : Result Indexed E) (documents : Documents) (pairs : List Entry)
    → IsTableOf documents pairs → IfOk r (λ table. HoldsBoth [] pairs table.pairs)
    → IfOk r (λ table. IsTableOf documents table.pairs)
ok_table (Ok table) documents pairs is both = λ p. both p ∙ is p
ok_table (Err e) documents pairs is both = both
