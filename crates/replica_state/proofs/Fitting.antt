-- The tests of what fits say what fits.
use Rattle.std.specs.Prelude.{◌≡◌, ◌↔◌, Bool, true, false, not, ◌&&◌, IsTrue, IsSome, is_some, List, Option, Some, None}
use Rattle.std.specs.Prelude.{refl}
use Rattle.std.proofs.Common.{sym, ◌∙◌, ap}
use Rattle.u1_base.specs.Places.{Place}
use Rattle.translog.specs.Source.{GoesOn, passes}
use Rattle.translog.proofs.PlaceTests.{goes_on}
use Rattle.std.specs.Borrow.{Bor}
use Rattle.std.specs.Option.{option_copied, unwrap_or}
use Rattle.std.specs.FinMap.Entries.{find}
use Rattle.u1_base.specs.Ids.{id_cmp}
use Rattle.u1_base.specs.Places.{nowhere}
use Rattle.vector_rev.specs.Counts.{Uid}
use Rattle.conflicts.specs.State.{Text}
use Rattle.conflicts.specs.declared.moves.PosTable.{PosTable}
use Rattle.conflicts.specs.declared.moves.PosTable.TheVariants.{Known, Told}
use Rattle.doc_table.specs.Listed.{Listed}
use Rattle.replica_state.specs.Held.{Held, chosen, meaning}
use Rattle.replica_state.specs.Lent.{IsLent}
use Rattle.replica_state.specs.declared.index.Index.{Index}

-- both tests pass exactly where both facts hold
pub both_fit : (a b : Bool) (A B : Type 0) → (IsTrue a ↔ A) → (IsTrue b ↔ B) → IsTrue (a && b) ↔ (A × B)
both_fit true true A B f g = (λ e. (f.0 refl, g.0 refl), λ h. refl)
both_fit true false A B f g = (λ e. (f.0 refl, g.0 e), λ h. g.1 h.1)
both_fit false b A B f g = (λ e. (f.0 e, absurd (not_true e)), λ h. f.1 h.0)
  where
    not_true : false ≡ true → ⊥
    not_true e = cc

-- there is nothing
pub is_absent : {A : Type 0} (o : Option A) → IsTrue (not (is_some o)) ↔ (o ≡ None)
is_absent None = (λ e. refl, λ e. refl)
is_absent (Some x) = (λ e. absurd (cc), λ e. absurd (cc))

pub is_present : {A : Type 0} (o : Option A) → IsTrue (is_some o) ↔ IsSome o
is_present o = (λ e. e, λ h. h)

-- the test of a move is the source check
pub goes : (b : Bool) (kept kept_too at : Place) → kept ≡ kept_too → b ≡ passes kept at → IsTrue b ↔ GoesOn kept_too at
goes b kept kept_too at same is = (
  λ e. (goes_on kept_too at).1 (ap (λ (k : Place). passes k at) (sym same) ∙ sym is ∙ e),
  λ h. is ∙ ap (λ (k : Place). passes k at) same ∙ (goes_on kept_too at).0 h,
)

chosen_pairs : (t : PosTable) (known told : Listed Place)
    → (chosen t known told).pairs ≡ chosen t known.pairs told.pairs
chosen_pairs Known known told = refl
chosen_pairs Told known told = refl

-- what is kept of a peer
pub kept_at : (s : Held) (t : PosTable) (u : Uid) (o : Option Place) (l : Listed Place) → l ≡ chosen t s.known s.told
    → o ≡ find id_cmp u l.pairs → unwrap_or o nowhere ≡ unwrap_or ((meaning s).position t u) nowhere
kept_at s t u o l table found =
    ap (λ (p : Option Place). unwrap_or p nowhere)
    (found ∙ ap (λ (k : Listed Place). find id_cmp u k.pairs) table
    ∙ ap (λ (ps : List (Uid × Place)). find id_cmp u ps) (chosen_pairs t s.known s.told))

lent_some : (s : Held) (n : Text) (o : Option Index) → IsLent s n o → is_some o ≡ is_some ((meaning s).index n)
lent_some s n None h = sym (ap is_some h)
lent_some s n (Some index) h = sym (ap is_some h.0)

copied_some : {A : Type 0} (r : Option (Bor A)) → is_some r ≡ is_some (option_copied r)
copied_some None = refl
copied_some (Some x) = refl

-- an index is lent exactly where there is one
pub is_lent : (s : Held) (n : Text) (r : Option (Bor Index)) → IsLent s n (option_copied r)
    → is_some r ≡ is_some ((meaning s).index n)
is_lent s n r h = copied_some r ∙ lent_some s n (option_copied r) h
