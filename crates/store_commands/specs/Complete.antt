-- Where no cause stands, a run is done, or memory ran out.
use Rattle.std.specs.Prelude.{◌≡◌, ◌⊎◌, ℕ, length}
use Rattle.u1_base.specs.Causes.{Rose}
use Rattle.cli_words.specs.declared.command.Command.{Command}
use Rattle.command_lines.specs.declared.outcome.Outcome.{Outcome}
use Rattle.command_lines.specs.declared.outcome.Outcome.TheVariants.{Done, Memory}
use Rattle.store_commands.specs.Answer.{Occasion, answer}
use Rattle.store_commands.specs.Leaves.{Fit}
use Rattle.store_commands.specs.Run.{Runs, Seen}

-- nothing that a run may break off at came: the command is not refused, no call failed, and its steps fit
pub record HasNoCause (o : Occasion) (before after : Seen) : Type 0 where
  pub done : (answer o).outcome ≡ Done
  pub disk : ¬ (Rose before.store.faults after.store.faults)
  pub input : ¬ (Rose before.outside.input.faults after.outside.input.faults)
  pub output : ¬ (Rose before.outside.output.faults after.outside.output.faults)
  pub fits : Fit o.found (answer o).changes (length (answer o).changes)

-- a run and its completeness, over the very same decision
pub record RunsWhole (command : Command) (seed : ℕ) (before after : Seen) (result : Outcome) : Type 0 where
  pub runs : Runs command seed before after result
  pub complete : HasNoCause runs.decides.o before after → (result ≡ Done) ⊎ (result ≡ Memory)
