-- What the top call promises.
use Rattle.std.specs.Prelude.{◌≡◌, ◌⊎◌, ℕ, Bool, List, Result, Ok, Err}
use Rattle.cli_words.specs.Words.{command_in}
use Rattle.cli_words.specs.declared.command.Command.{Command}
use Rattle.cli_words.specs.declared.fault.WordsFault.{WordsFault}
use Rattle.cli_words.specs.declared.fault.WordsFault.TheVariants as words
use Rattle.command_lines.specs.LastLines.{last_line}
use Rattle.command_lines.specs.declared.outcome.Outcome.{Outcome}
use Rattle.command_lines.specs.declared.outcome.Outcome.TheVariants.{Memory, Usage}
use Rattle.command_lines.specs.declared.outcome.UsageKind.TheVariants as usage
use Rattle.disk_model.specs.Device.{Device}
use Rattle.disks.specs.Disks.{disks_known}
use Rattle.disks.specs.Joint.{Devices}
use Rattle.disks.specs.declared.three.Disks.{Disks}
use Rattle.outside.specs.Known.{LeavesPeers, OutsideKnown}
use Rattle.store_commands.specs.Complete.{RunsWhole}
use Rattle.store_commands.specs.Prints.{Prints}
use Rattle.store_commands.specs.Run.{Seen}
use Rattle.replica_cli.specs.Store.{image_seen, store_seen}

-- what is known of the three disks and of the objects outside at a moment
pub record Surroundings : Type 0 where
  pub disks : Devices
  pub outside : OutsideKnown

abbrev pub around : {D : Type 0} → (D → Device) → Disks D → OutsideKnown → Surroundings
around known disks outside = record { disks = disks_known known disks; outside = outside }

-- the store on the disks, its image, and what is outside
abbrev pub seen_in : Bool → Surroundings → Seen
seen_in tells s = record { store = store_seen tells s.disks; image = image_seen tells s.disks; outside = s.outside }

-- a command was run over the store on the disks
abbrev pub RunsCommand : Bool → Command → ℕ → Surroundings → Surroundings → Outcome → Type 0
RunsCommand tells command seed before after result =
    RunsWhole command seed (seen_in tells before) (seen_in tells after) result

-- how a run ends whose words are no command
abbrev pub words_end : WordsFault → Outcome
words_end words.Words = Usage usage.Words
words_end (words.Value place) = Usage (usage.Value place)
words_end words.Memory = Memory

-- there was no command to run: only the last line was printed
pub record TurnsAway (decided : Outcome) (before after : Surroundings) (result : Outcome) : Type 0 where
  pub disks : after.disks ≡ before.disks
  pub input : after.outside.input ≡ before.outside.input
  pub peers : LeavesPeers before.outside after.outside
  pub prints : Prints (last_line decided) before.outside.output after.outside.output decided result

-- words that are a command are run as this one; for others the run ends as they say
abbrev pub RunsAs : Bool → Result Command WordsFault → ℕ → Surroundings → Surroundings → Outcome → Type 0
RunsAs tells (Ok command) seed before after result = RunsCommand tells command seed before after result
RunsAs tells (Err fault) seed before after result = TurnsAway (words_end fault) before after result

-- THE RUN: the words are read, and run; or memory ran out before they were read
abbrev pub Runs : Bool → List (List ℕ) → ℕ → Surroundings → Surroundings → Outcome → Type 0
Runs tells words seed before after result =
    RunsAs tells (command_in words) seed before after result ⊎ TurnsAway Memory before after result
