-- The first that waits is applied, or none is left.
use Rattle.std.proofs.Common.{◌≡◌, [], ◌∷◌, ◌∙◌, cond, sym, ap, arith, rules}
use Rattle.std.proofs.lemmas.Grind.{common_steps}
use Rattle.std.specs.Vec.Iter.{into_iter_items}
use Rattle.conflicts.specs.declared.accept.Accept.{Accept}
use Rattle.u1_base.specs.Ids.{same_id}
use Rattle.replica_state.specs.Held.{meaning}
use Rattle.replica_state.specs.Waiting.{accepting, with_accepted}
use Rattle.replica_state.proofs.WaitingAccepts.{applied_first}
use Rattle.replica_state.proofs.settling.accept_all.Goals as goal

pub loop-waits-init : goal.loop-waits-init
loop-waits-init c = record {
  left = ap (with_accepted (meaning c.args.state.now)) c.into_iter-waits-iterator.ensures.into_iter_gives.0;
  none = c.requires;
}

pub loop-waits-preserved : goal.loop-waits-preserved
loop-waits-preserved c =
    let i = c.loop-waits.invariant in
    let waits = c.in-Some.waits in
    record {
      left = applied_first (meaning c.loop-waits.state) (meaning c.accept_alone.new.self) waits
          (into_iter_items c.next.new.self)
          (c.in_ok-accept_alone.ensures.accepted
          ∙ ap (λ (a : Accept). accepting (meaning c.loop-waits.state)
          (λ d. cond (same_id d waits.doc) (a ∷ []) [])) c.into_inner-accept.ensures)
          ∙ sym (ap (with_accepted (meaning c.loop-waits.state)) c.in-Some.ensures.steps.0)
          ∙ i.left;
      none = c.accept_alone.ensures.indexes;
    }

pub returns-clause-accepted : goal.returns-clause-accepted
returns-clause-accepted c =
    let none : into_iter_items c.loop-waits.waits-iterator ≡ [] =
    first_of (search rules, grind (arith, common_steps)) in
    ap (with_accepted (meaning c.loop-waits.state)) (sym none) ∙ c.loop-waits.invariant.left
