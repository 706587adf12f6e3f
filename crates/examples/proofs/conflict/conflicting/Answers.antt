-- The note is in conflict, or it is not.
use Rattle.std.proofs.Common.{◌∙◌}
use Rattle.replica_state.specs.Held.{meaning}
use Rattle.examples.proofs.Notes.{ok_so}
use Rattle.examples.proofs.Settling.{in_conflict, not_in_conflict}
use Rattle.examples.proofs.conflict.conflicting.Goals as goal

pub returns-in-Some : goal.returns-in-Some
returns-in-Some c =
    let d = (meaning c.args.state.now).document c.args.id.now in
    ok_so c.revisions.result (λ all are. are ∙ in_conflict d c.in-Some.set.now c.in-Some.ensures.0 c.in-Some.ensures.1)
    c.revisions.ensures

pub returns-in-None : goal.returns-in-None
returns-in-None c =
    let d = (meaning c.args.state.now).document c.args.id.now in
    c.new.ensures ∙ not_in_conflict d c.in-None.ensures
