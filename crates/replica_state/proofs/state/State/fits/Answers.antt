-- Each kind of step has its tests.
use Rattle.std.proofs.Common.{Bool, subst, sym}
use Rattle.std.specs.Prelude.{◌≡◌, ◌↔◌, ◌&&◌, IsTrue, IsSome, not, None}
use Rattle.conflicts.specs.Document.{FitsDocument}
use Rattle.conflicts.specs.State.{Fits, MoveFits}
use Rattle.replica_state.specs.Held.{meaning}
use Rattle.replica_state.specs.Steps.{step_of}
use Rattle.replica_state.specs.declared.step.Step.{Step}
use Rattle.replica_state.proofs.Fitting.{both_fit, is_absent, is_present}
use Rattle.replica_state.proofs.state.State.fits.Goals as goal

pub returns-in-Accept : goal.returns-in-Accept
returns-in-Accept c =
    let s = meaning c.args.self.now in
    subst (λ (x : Step). IsTrue (c.accept_fits.result && c.moved_fits.result) ↔ Fits s (step_of x)) (sym c.in-Accept.is)
    (both_fit c.accept_fits.result c.moved_fits.result (FitsDocument (s.document c.in-Accept.doc) c.in-Accept.accept)
    (MoveFits s c.in-Accept.moved) c.accept_fits.ensures c.moved_fits.ensures)

pub returns-in-Position : goal.returns-in-Position
returns-in-Position c =
    let s = meaning c.args.self.now in
    subst (λ (x : Step). IsTrue c.move_fits.result ↔ Fits s (step_of x)) (sym c.in-Position.is) c.move_fits.ensures

pub returns-in-IndexCreate : goal.returns-in-IndexCreate
returns-in-IndexCreate c =
    let s = meaning c.args.self.now in
    subst (λ (x : Step). IsTrue (not c.has_index.result) ↔ Fits s (step_of x)) (sym c.in-IndexCreate.is)
    (subst (λ (b : Bool). IsTrue (not b) ↔ (s.index c.in-IndexCreate.name ≡ None)) (sym c.has_index.ensures)
    (is_absent (s.index c.in-IndexCreate.name)))

pub returns-in-IndexDelete : goal.returns-in-IndexDelete
returns-in-IndexDelete c =
    let s = meaning c.args.self.now in
    subst (λ (x : Step). IsTrue c.has_index-in-IndexDelete.result ↔ Fits s (step_of x)) (sym c.in-IndexDelete.is)
    (subst (λ (b : Bool). IsTrue b ↔ IsSome (s.index c.in-IndexDelete.name)) (sym c.has_index-in-IndexDelete.ensures)
    (is_present (s.index c.in-IndexDelete.name)))
