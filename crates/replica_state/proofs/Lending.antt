-- The index that is lent.
use Rattle.std.proofs.Common.{◌≡◌, Bool, true, false, cond, List, [], ◌∷◌, map, refl, sym, subst, ◌∙◌, ap, Option, Some}
use Rattle.std.proofs.Common.{None}
use Rattle.std.proofs.lemmas.List.Elements.{All-head, All-tail}
use Rattle.std.specs.FinMap.Entries.{find}
use Rattle.conflicts.specs.State.{Text}
use Rattle.u1_base.specs.Ids.{id_cmp, same_id}
use Rattle.replica_state.specs.Held.{Heading, Held, named}
use Rattle.replica_state.specs.Keyed.{AreTables, Docs, IsTable}
use Rattle.replica_state.specs.Lent.{IsLent}
use Rattle.replica_state.specs.Named.{heading}
use Rattle.replica_state.specs.inner.Named.{first_named}
use Rattle.replica_state.specs.declared.index.Index.{Index}

-- what the first index of a name is, by what holds of all
abbrev IsFirst : Docs → List Index → Text → Option Index → Type 0
IsFirst docs xs n (Some index) = (find id_cmp n (named (map heading xs)) ≡ Some index.exprs.texts) × IsTable docs index
IsFirst docs xs n None = find id_cmp n (named (map heading xs)) ≡ None

is_first : (docs : Docs) (xs : List Index) (n : Text) → AreTables docs xs → IsFirst docs xs n (first_named n xs)
is_first docs [] n all = refl
is_first docs (x ∷ xs) n all = elim (same_id n x.name) as
    (λ (b : Bool). same_id n x.name ≡ b → IsFirst docs (x ∷ xs) n (cond b (Some x) (first_named n xs))) [
      | true ↦ λ e. (
        ap (λ (b : Bool). cond b (Some x.exprs.texts) (find id_cmp n (named (map heading xs)))) e,
        All-head (IsTable docs) x xs all,
      )
      | false ↦ λ e. past (first_named n xs)
          (ap (λ (b : Bool). cond b (Some x.exprs.texts) (find id_cmp n (named (map heading xs)))) e)
          (is_first docs xs n (All-tail (IsTable docs) x xs all))
    ] refl
  where
    past : (o : Option Index) → find id_cmp n (named (map heading (x ∷ xs))) ≡ find id_cmp n (named (map heading xs))
        → IsFirst docs xs n o → IsFirst docs (x ∷ xs) n o
    past None e h = e ∙ h
    past (Some index) e h = (e ∙ h.0, h.1)

pub lent : (s : Held) (xs : List Index) (n : Text) (o : Option Index) → map heading xs ≡ s.collection.indexes
    → AreTables s.collection.docs.pairs xs → o ≡ first_named n xs → IsLent s n o
lent s xs n o seen all is =
    told o (subst (IsFirst s.collection.docs.pairs xs n) (sym is) (is_first s.collection.docs.pairs xs n all))
  where
    told : (p : Option Index) → IsFirst s.collection.docs.pairs xs n p → IsLent s n p
    told None h = ap (λ (hs : List Heading). find id_cmp n (named hs)) (sym seen) ∙ h
    told (Some index) h = (ap (λ (hs : List Heading). find id_cmp n (named hs)) (sym seen) ∙ h.0, h.1)
