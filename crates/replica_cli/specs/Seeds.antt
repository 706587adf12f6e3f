-- Which commands make ids of the seed.
use Rattle.std.specs.Prelude.{◌≡◌, ℕ}
use Rattle.cli_words.specs.declared.command.Command.{Command}
use Rattle.store_commands.specs.Answer.{Occasion, answer}

-- whatever a run of the command meets, its answer is the same for every seed
abbrev pub NeedsNoSeed : Command → Type 0
NeedsNoSeed command =
    (o : Occasion) (s t : ℕ) → o.command ≡ command → answer (record o { seed = s }) ≡ answer (record o { seed = t })
