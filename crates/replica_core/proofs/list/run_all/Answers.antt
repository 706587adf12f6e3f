-- Each history goes on by the steps of the calls.
use Rattle.replica_core.proofs.Runs.{if_ok, kept}
use Rattle.replica_core.proofs.list.run_all.Goals as goal

pub returns-clause-kept : goal.returns-clause-kept
returns-clause-kept g c =
    if_ok c.make_all.result _ _
    (λ ends. kept c.law_state.ensures c.law_members.ensures g.R.Replica.known g.R.Replica.is_open g.R.Replica.crash
    c.args.replica.now c.make_all.new.replica c.args.calls.now ends.items)
    c.make_all.ensures.run
