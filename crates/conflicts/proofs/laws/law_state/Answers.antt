-- Each part of the state is a filter of the history.
use Rattle.conflicts.proofs.States.{goes_on}
use Rattle.conflicts.proofs.laws.law_state.Goals as goal

pub returns : goal.returns
returns c = goes_on
