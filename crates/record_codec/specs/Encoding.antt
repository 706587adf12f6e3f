-- What encoding answers.
use Rattle.std.specs.Prelude.{List}
use Rattle.replica_state.specs.declared.step.Step.{Step as Held}
use Rattle.replica_state.specs.Steps.{step_of}
use Rattle.record_fields.specs.Table.{Text}
use Rattle.record_codec.specs.Bodies.{Recorded}

-- a step that was written, as one of a history, with the uids to which its body gives numbers
abbrev pub written : Held → List Text → Recorded
written s added = record { step = step_of s; added = added }
