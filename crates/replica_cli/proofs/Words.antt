-- Words that are no command.
use Rattle.std.specs.Prelude.{ℕ, Bool, List, Result, Err}
use Rattle.std.proofs.Common.{◌≡◌, inl, inr, sym, subst}
use Rattle.cli_words.specs.Faults.{Answers}
use Rattle.cli_words.specs.Words.{command_in}
use Rattle.cli_words.specs.declared.command.Command.{Command}
use Rattle.cli_words.specs.declared.fault.WordsFault.{WordsFault}
use Rattle.cli_words.specs.declared.fault.WordsFault.TheVariants as words
use Rattle.command_lines.specs.declared.outcome.Outcome.{Outcome}
use Rattle.replica_cli.specs.Run.{Runs, RunsAs, Surroundings, TurnsAway, words_end}

-- as what they were read they say it
pub as_read : (tells : Bool) (given : List (List ℕ)) (seed : ℕ) (before after : Surroundings) (result : Outcome)
    (read : Result Command WordsFault)
    → command_in given ≡ read → RunsAs tells read seed before after result → Runs tells given seed before after result
as_read tells given seed before after result read said runs =
    inl (subst (λ (r : Result Command WordsFault). RunsAs tells r seed before after result) (sym said) runs)

pub turned_away : (tells : Bool) (given : List (List ℕ)) (seed : ℕ) (before after : Surroundings) (result : Outcome)
    (fault : WordsFault)
    → Answers {A = Command} (command_in given) (Err fault) → TurnsAway (words_end fault) before after result
    → Runs tells given seed before after result
turned_away tells given seed before after result words.Words said t =
    as_read tells given seed before after result (Err words.Words) said t
turned_away tells given seed before after result (words.Value place) said t =
    as_read tells given seed before after result (Err (words.Value place)) said t
turned_away tells given seed before after result words.Memory said t = inr t
