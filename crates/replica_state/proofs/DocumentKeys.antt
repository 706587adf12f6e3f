-- Documents with their keys.
use Rattle.std.proofs.Common.{◌≡◌, ℕ, Bool, true, false, cond, List, [], ◌∷◌, ◌++◌, length, refl, sym, subst, ◌∙◌, ap}
use Rattle.std.proofs.Common.{Ordering, Less, Equal, Greater, Option, Some, None}
use Rattle.std.proofs.lemmas.List.{length-map, map-append}
use Rattle.std.proofs.lemmas.List.Elements.{All-nil}
use Rattle.std.specs.FinMap.Entries.{by_order, find, put}
use Rattle.std.specs.List.{All}
use Rattle.std.specs.Option.{option_map, unwrap_or}
use Rattle.content.specs.Tree.{Tree}
use Rattle.conflicts.specs.Kept.{Kept, current}
use Rattle.conflicts.specs.State.{Text}
use Rattle.expr_parser.specs.Canonical.{canonical}
use Rattle.expr_parser.specs.Reading.{AreExprs, forms_in}
use Rattle.expr_parser.proofs.ReadBack.{exprs_of_texts}
use Rattle.expr_eval.proofs.Widths.{keys_of-width}
use Rattle.index_tables.specs.Documents.{IsTableOf, keys_at}
use Rattle.index_tables.specs.Entries.{HaveWidth}
use Rattle.index_tables.specs.Order.{Entry, Key}
use Rattle.index_tables.proofs.Documents.{wide}
use Rattle.u1_base.specs.Ids.{id_cmp, same_id}
use Rattle.replica_state.specs.Keyed.{Docs, keyed, keys_in, keys_of_kept, keys_there}

-- ---- documents with keys are found and put as the documents are

pub find_keyed : (exprs : List Text) (docs : Docs) (id : Text)
    → find id_cmp id (keyed exprs docs) ≡ option_map (keys_of_kept exprs) (find id_cmp id docs)
find_keyed exprs [] id = refl
find_keyed exprs (d ∷ docs) id = elim (same_id id d.0) as
    (λ (b : Bool). cond b (Some (keys_of_kept exprs d.1)) (find id_cmp id (keyed exprs docs))
    ≡ option_map (keys_of_kept exprs) (cond b (Some d.1) (find id_cmp id docs))) [
      | true ↦ refl
      | false ↦ find_keyed exprs docs id
    ]

there : (exprs : List Text) (o : Option Kept) → unwrap_or (option_map (keys_of_kept exprs) o) [] ≡ keys_there exprs o
there exprs None = refl
there exprs (Some kept) = refl

pub keys_at_keyed : (exprs : List Text) (docs : Docs) (id : Text)
    → keys_at (keyed exprs docs) id ≡ keys_there exprs (find id_cmp id docs)
keys_at_keyed exprs docs id = ap (λ (o : Option (List Key)). unwrap_or o []) (find_keyed exprs docs id)
    ∙ there exprs (find id_cmp id docs)

pub put_keyed : (exprs : List Text) (docs : Docs) (id : Text) (kept : Kept)
    → put id_cmp id (keys_of_kept exprs kept) (keyed exprs docs) ≡ keyed exprs (put id_cmp id kept docs)
put_keyed exprs [] id kept = refl
put_keyed exprs (d ∷ docs) id kept =
    elim (id_cmp id d.0) as
    (λ (o : Ordering). by_order o ((id, keys_of_kept exprs kept) ∷ keyed exprs (d ∷ docs))
    ((d.0, keys_of_kept exprs kept) ∷ keyed exprs docs)
    ((d.0, keys_of_kept exprs d.1) ∷ put id_cmp id (keys_of_kept exprs kept) (keyed exprs docs))
    ≡ keyed exprs (by_order o ((id, kept) ∷ d ∷ docs) ((d.0, kept) ∷ docs) (d ∷ put id_cmp id kept docs))) [
      | Less ↦ refl
      | Equal ↦ refl
      | Greater ↦ ap (λ (ds : List (Text × List Key)). (d.0, keys_of_kept exprs d.1) ∷ ds)
          (put_keyed exprs docs id kept)
    ]

pub push_keyed : (exprs : List Text) (docs : Docs) (id : Text) (kept : Kept)
    → keyed exprs (docs ++ (id, kept) ∷ []) ≡ keyed exprs docs ++ (id, keys_of_kept exprs kept) ∷ []
push_keyed exprs docs id kept = map-append (λ (d : Text × Kept). (d.0, keys_of_kept exprs d.1)) docs ((id, kept) ∷ [])

pub none_keyed : (exprs : List Text) (docs : Docs) (id : Text) → find id_cmp id docs ≡ None
    → find id_cmp id (keyed exprs docs) ≡ None
none_keyed exprs docs id none = find_keyed exprs docs id ∙ ap (option_map (keys_of_kept exprs)) none

-- ---- each key has one text of each expression

pub as_many : (exprs : List Text) → AreExprs exprs → length (forms_in exprs) ≡ length exprs
as_many exprs are = sym (length-map (forms_in exprs) canonical)
    ∙ ap (λ (ts : List Text). length ts) (exprs_of_texts exprs are).1

in_width : (exprs : List Text) → AreExprs exprs → (content : Option Tree)
    → All (λ (key : Key). length key ≡ length exprs) (keys_in exprs content)
in_width exprs are None = All-nil (λ (key : Key). length key ≡ length exprs)
in_width exprs are (Some tree) = subst (λ (n : ℕ). All (λ (key : Key). length key ≡ n) (keys_in exprs (Some tree)))
    (as_many exprs are) (keys_of-width (forms_in exprs) tree)

there_width : (exprs : List Text) → AreExprs exprs → (o : Option Kept)
    → All (λ (key : Key). length key ≡ length exprs) (keys_there exprs o)
there_width exprs are None = All-nil (λ (key : Key). length key ≡ length exprs)
there_width exprs are (Some kept) = in_width exprs are (current kept).content

pub table_wide : (exprs : List Text) (docs : Docs) (entries : List Entry) → AreExprs exprs
    → IsTableOf (keyed exprs docs) entries → HaveWidth (length exprs) entries
table_wide exprs docs entries are is =
    wide (length exprs) (keyed exprs docs) entries
    (λ id. subst (λ (keys : List Key). All (λ (key : Key). length key ≡ length exprs) keys)
    (sym (keys_at_keyed exprs docs id)) (there_width exprs are (find id_cmp id docs))) is
