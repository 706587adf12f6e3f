-- What `run_all` promises of a list of runs.
use Rattle.std.specs.Prelude.{Bool, IsTrue, List, [], ◌∷◌, ◌++◌, take}
use Rattle.command_lines.specs.declared.outcome.Outcome.{Outcome}
use Rattle.replica_core.specs.Replica.{Found as Left, Stored}
use Rattle.store_commands.specs.Changes.{Change}
use Rattle.run_lists.specs.Kept.{GoesOn, KeepsAll, found_at}
use Rattle.run_lists.specs.Lists.{Asked, Between, RunInTurn, RunsOnce, with_input}
use Rattle.run_lists.specs.Questions.{AnswersInTurn}
use Rattle.run_lists.specs.Shares.{share_of, shares}

-- the changes of a run that stand after it
abbrev pub made_by : (tells : Bool) (a : Asked) (before after : Between) (o : Outcome)
    → RunsOnce tells a before after o → List Change
made_by tells a before after o x =
    let s = share_of tells a.words a.seed (with_input before a.input) (with_input after x.read) o x.runs in
    take s.stood s.changes

-- each run found what the changes of those before it had made of the store
abbrev pub FindsInTurn : (found : Left Stored) (so_far : List Change)
    (tells : Bool) (list : List Asked) (before after : Between) (os : List Outcome)
    → RunInTurn tells list before after os → Type 0
FindsInTurn found so_far tells [] before after [] x = GoesOn found so_far (found_at before)
FindsInTurn found so_far tells [] before after (o ∷ os) x = Unit {0}
FindsInTurn found so_far tells (a ∷ more) before after [] x = Unit {0}
FindsInTurn found so_far tells (a ∷ more) before after (o ∷ os) x =
    GoesOn found so_far (found_at before)
    × FindsInTurn found (so_far ++ made_by tells a before x.0 o x.1) tells more x.0 after os x.2

-- THE PROMISE
pub record HaveRun (tells : Bool) (list : List Asked) (before after : Between) (outcomes : List Outcome) : Type 0 where
  -- the runs were made one after the other, each with the contract of a run
  pub in_turn : RunInTurn tells list before after outcomes
  -- each answer of an index is the filter of the live documents of the state that stood then
  pub answers : AnswersInTurn tells list before after outcomes in_turn
  -- which is one of the history that goes on
  pub finds : IsTrue tells → FindsInTurn (found_at before) [] tells list before after outcomes in_turn
  -- and no revision is lost
  pub kept : IsTrue tells → KeepsAll before after (shares tells list before after outcomes in_turn)
