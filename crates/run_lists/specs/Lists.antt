-- Runs one after the other, on the same disks, output, link and door. Each has an input of its own.
use Rattle.std.specs.Prelude.{◌≡◌, ℕ, Bool, List, [], ◌∷◌}
use Rattle.command_lines.specs.declared.outcome.Outcome.{Outcome}
use Rattle.disk_model.specs.Device.{Device}
use Rattle.disks.specs.Disks.{disks_known}
use Rattle.disks.specs.Joint.{Devices}
use Rattle.disks.specs.declared.three.Disks.{Disks}
use Rattle.link.specs.Streams.{Input, Output}
use Rattle.outside.specs.Known.{ConnKnown, OutsideKnown}
use Rattle.replica_cli.specs.Run.{Runs, Surroundings}
use Rattle.run_lists.specs.declared.list.Request.{Request}
use Rattle.sync_link.specs.Doors.{DoorKnown}
use Rattle.sync_link.specs.Links.{LinkKnown}

-- a run that is asked for: its words, its seed, and what is known of its input
pub record Asked : Type 0 where
  pub words : List (List ℕ)
  pub seed : ℕ
  pub input : Input

abbrev pub asked : {S : Type 0} → (S → Input) → Request S → Asked
asked known r = record { words = r.words; seed = r.seed; input = known r.input }

-- what is known between two runs
pub record Between : Type 0 where
  pub disks : Devices
  pub output : Output
  pub link : LinkKnown
  pub door : DoorKnown ConnKnown

-- whatever input stands there: it is that of a run that ended
abbrev pub between : {D : Type 0} → (D → Device) → Disks D → OutsideKnown → Between
between known disks outside = record {
  disks = disks_known known disks;
  output = outside.output;
  link = outside.link;
  door = outside.door;
}

abbrev pub with_input : Between → Input → Surroundings
with_input m input = record {
  disks = m.disks;
  outside = record { input = input; output = m.output; link = m.link; door = m.door };
}

-- one run of the list
pub record RunsOnce (tells : Bool) (a : Asked) (before after : Between) (outcome : Outcome) : Type 0 where
  pub read : Input
  pub runs : Runs tells a.words a.seed (with_input before a.input) (with_input after read) outcome

-- all of them, each with its outcome
abbrev pub RunInTurn : Bool → List Asked → Between → Between → List Outcome → Type 0
RunInTurn tells [] before after [] = after ≡ before
RunInTurn tells [] before after (outcome ∷ outcomes) = ⊥
RunInTurn tells (a ∷ more) before after [] = ⊥
RunInTurn tells (a ∷ more) before after (outcome ∷ outcomes) =
    (middle : Between) × RunsOnce tells a before middle outcome × RunInTurn tells more middle after outcomes
