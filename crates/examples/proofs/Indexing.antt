-- An index that is created is there.
use Rattle.std.specs.Prelude.{◌≡◌, Bool, true, false, cond, List, [], ◌∷◌, Option, Some, None, if◌then◌else◌, refl}
use Rattle.std.proofs.Common.{◌∙◌, ap}
use Rattle.std.proofs.lemmas.Slice.Eq.{bytes_eq-Decides, slice_eq-Decides}
use Rattle.u1_base.proofs.SameIds.{same_id-itself}
use Rattle.conflicts.specs.Lists.{last_or}
use Rattle.conflicts.specs.State.{State, Text}
use Rattle.conflicts.specs.Writing.{Answers, Decided, IsAnswer, Refuses, create_over, same_exprs, step_in}
use Rattle.replica_core.specs.CallsDecide.{create_decides}
use Rattle.replica_core.specs.Replica.{after_step}
use Rattle.replica_core.specs.declared.calls.indexes.IndexFault.{IndexFault}
use Rattle.replica_core.specs.declared.calls.indexes.IndexFault.TheVariants.{IndexTaken}

-- an index of the name is accepted as it is, where it has the same expressions
abbrev over : Bool → Decided (Unit {0}) IndexFault
over b = if b then Answers tt None else Refuses IndexTaken

kept_there : (s new : State) (name : Text) (exprs kept : List Text) (b : Bool) → same_exprs kept exprs ≡ b
    → s.index name ≡ Some kept
    → IsAnswer (over b) tt → new ≡ after_step s (step_in (over b)) → new.index name ≡ Some exprs
kept_there s new name exprs kept false e there answer is = absurd answer
kept_there s new name exprs kept true e there answer is =
    ap (λ (x : State). x.index name) is ∙ there
    ∙ ap Some ((slice_eq-Decides bytes_eq-Decides kept exprs (same_exprs kept exprs) refl).0 e)

module _ (s new : State) (name : Text) (exprs : List Text) where
  by_kept : (o : Option (List Text)) → s.index name ≡ o → IsAnswer (create_over IndexTaken name exprs o) tt
      → new ≡ after_step s (step_in (create_over IndexTaken name exprs o)) → new.index name ≡ Some exprs
  by_kept None there answer is =
      ap (λ (x : State). x.index name) is
      ∙ ap (λ (b : Bool). last_or (s.index name) (cond b (Some exprs ∷ []) [])) (same_id-itself name)
  by_kept (Some kept) there answer is = kept_there s new name exprs kept (same_exprs kept exprs) refl there answer is

  pub created_there : IsAnswer (create_decides name exprs s) tt
      → new ≡ after_step s (step_in (create_decides name exprs s)) → new.index name ≡ Some exprs
  created_there = by_kept (s.index name) refl
