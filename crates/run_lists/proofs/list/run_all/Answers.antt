-- Each history goes on by the changes of the runs, and each answer of an index is a filter.
use Rattle.replica_core.proofs.Runs.{if_ok}
use Rattle.run_lists.proofs.Promised.{have_run}
use Rattle.run_lists.proofs.list.run_all.Goals as goal

pub returns-clause-runs : goal.returns-clause-runs
returns-clause-runs g c =
    if_ok c.run_each.result.0 _ _
    (λ outcomes x. have_run c.law_state.ensures c.law_members.ensures c.law_answers.ensures _ _ _ _ outcomes.items x)
    c.run_each.ensures.runs
