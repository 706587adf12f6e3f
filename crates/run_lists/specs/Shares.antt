-- What each run of a list did to the store, and what a crash on the way leaves.
use Rattle.std.proofs.Common.{inl, inr}
use Rattle.std.specs.Prelude.{◌≡◌, ◌⊎◌, ℕ, ◌<◌, ◌≤◌, nat_le, Bool, true, false, ◌&&◌, ◌||◌, if◌then◌else◌, List, []}
use Rattle.std.specs.Prelude.{◌∷◌, ◌++◌, take, Result, Ok, Err}
use Rattle.cli_words.specs.Words.{command_in}
use Rattle.cli_words.specs.declared.command.Command.{Command}
use Rattle.cli_words.specs.declared.fault.WordsFault.{WordsFault}
use Rattle.command_lines.specs.declared.outcome.Outcome.{Outcome}
use Rattle.command_lines.specs.declared.outcome.Outcome.TheVariants.{DiskFault}
use Rattle.replica_cli.specs.Run.{Runs, RunsAs, Surroundings}
use Rattle.replica_core.specs.Replica.{Found as Left, Stored}
use Rattle.replica_volume.specs.Volume.{moments}
use Rattle.store_commands.specs.Changes.{Change, IsAfterSome, after_all}
use Rattle.run_lists.specs.Lists.{Asked, Between, RunInTurn, with_input}

-- The changes that a run answers: how many of them stand after it, and how many may have been written; the moment at
-- its end; and whether a crash then leaves just what stands.
pub record Share : Type 0 where
  pub changes : List Change
  pub stood : ℕ
  pub reached : ℕ
  pub end : ℕ
  pub settled : Bool

-- a run in which no disk failed settles the store that it opened or made
abbrev pub settles : Outcome → Bool
settles DiskFault = false
settles _ = true

-- no command was run
abbrev pub no_share : ℕ → Share
no_share end = record { changes = []; stood = 0; reached = 0; end = end; settled = false }

abbrev pub share_as : (tells : Bool) (read : Result Command WordsFault) (seed : ℕ) (before after : Surroundings)
    (o : Outcome)
    → RunsAs tells read seed before after o → Share
share_as tells (Ok command) seed before after o x = record {
  changes = x.runs.a.changes;
  stood = x.runs.decides.does.stood;
  reached = x.runs.decides.does.reached;
  end = moments tells after.disks;
  settled = x.runs.decides.opened && settles x.runs.decided;
}
share_as tells (Err fault) seed before after o x = no_share (moments tells after.disks)

abbrev pub share_of : (tells : Bool) (words : List (List ℕ)) (seed : ℕ) (before after : Surroundings) (o : Outcome)
    → Runs tells words seed before after o → Share
share_of tells words seed before after o (inl x) = share_as tells (command_in words) seed before after o x
share_of tells words seed before after o (inr away) = no_share (moments tells after.disks)

abbrev pub shares : (tells : Bool) (list : List Asked) (before after : Between) (os : List Outcome)
    → RunInTurn tells list before after os → List Share
shares tells [] before after [] x = []
shares tells [] before after (o ∷ os) x = []
shares tells (a ∷ more) before after [] x = []
shares tells (a ∷ more) before after (o ∷ os) x =
    share_of tells a.words a.seed (with_input before a.input) (with_input x.0 x.1.read) o x.1.runs
    ∷ shares tells more x.0 after os x.2

-- ---- what stands, and what a crash leaves

-- the changes that stand after all of them
abbrev pub made : List Share → List Change
made [] = []
made (s ∷ more) = take s.stood s.changes ++ made more

-- a crash before the end of a run leaves what one might have left at its start, or what stands after some of its
-- changes
abbrev pub LeavesIn : (Left Stored → Type 0) → Left Stored → Share → Left Stored → Type 0
LeavesIn P found s o = P o ⊎ IsAfterSome found s.changes s.reached o

-- and one at its end just what stands, where the run settled the store
abbrev pub IfSettled : Bool → Type 0 → Type 0 → Type 0
IfSettled true Stands Leaves = Stands
IfSettled false Stands Leaves = Leaves

abbrev pub LeavesBehind : (Left Stored → Type 0) → Left Stored → Share → Left Stored → Type 0
LeavesBehind P found s o = IfSettled s.settled (o ≡ after_all found (take s.stood s.changes)) (LeavesIn P found s o)

-- What a crash at the k-th moment may leave of a store that was found so, where P says what one might have left at the
-- start: it comes before the end of the first run, or it is one of the later runs, over what the first one left.
abbrev pub MayLeave : (Left Stored → Type 0) → ℕ → Left Stored → List Share → Left Stored → Type 0
MayLeave P k found [] o = P o
MayLeave P k found (s ∷ more) o =
    ((k < s.end) × LeavesIn P found s o)
    ⊎ ((s.end ≤ k) × MayLeave (LeavesBehind P found s) k (after_all found (take s.stood s.changes)) more o)

-- ---- what stands whatever a crash leaves

-- a run that settled the store ended by this moment
abbrev pub is_settled_by : ℕ → List Share → Bool
is_settled_by k [] = false
is_settled_by k (s ∷ more) = nat_le s.end k && (s.settled || is_settled_by k more)

-- the changes that stand after a crash at the k-th moment, whatever it leaves: those that were made up to the last run
-- that settled the store by then
abbrev pub lasting : ℕ → List Share → List Change
lasting k [] = []
lasting k (s ∷ more) = if is_settled_by k (s ∷ more) then take s.stood s.changes ++ lasting k more else []
