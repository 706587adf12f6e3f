-- The steps of the program, as the steps of a history.
use Rattle.conflicts.specs.State as history
use Rattle.replica_state.specs.declared.step.Step.{Step}
use Rattle.replica_state.specs.declared.step.Step.TheVariants.{Accept, Gone, Position, IndexCreate, IndexDelete}

-- an index is created with the canonical texts of its expressions
abbrev pub step_of : Step → history.Step
step_of (Accept doc accept trans moved) = history.Accepted doc accept trans moved
step_of (Gone doc trans moved) = history.Gone doc trans moved
step_of (Position moved) = history.Moved moved
step_of (IndexCreate name exprs) = history.IndexCreated name exprs.texts
step_of (IndexDelete name) = history.IndexDeleted name
