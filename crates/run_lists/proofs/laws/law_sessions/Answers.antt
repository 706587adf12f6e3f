-- A stop leaves changes of what was found, and the next list goes on from there.
use Rattle.run_lists.proofs.Composed.{compose}
use Rattle.run_lists.proofs.Showing.{answers_in_turn}
use Rattle.run_lists.proofs.Stopped.{files_found, sessions_go_on}
use Rattle.run_lists.proofs.laws.law_sessions.Goals as goal

pub returns-clause-files : goal.returns-clause-files
returns-clause-files c = files_found

pub returns-clause-changes : goal.returns-clause-changes
returns-clause-changes c = compose

pub returns-clause-sessions : goal.returns-clause-sessions
returns-clause-sessions c = sessions_go_on c.law_state.ensures c.law_members.ensures

pub returns-clause-answers : goal.returns-clause-answers
returns-clause-answers c = answers_in_turn c.law_answers.ensures
