-- The prepared step is put in; where memory runs out, the lists are as they were.
use Rattle.std.proofs.Common.{◌∙◌}
use Rattle.conflicts.specs.State.{after}
use Rattle.replica_state.specs.Held.{meaning, meaning_of}
use Rattle.replica_state.specs.Steps.{step_of}
use Rattle.replica_state.proofs.Replaying.{unspoken}
use Rattle.replica_state.proofs.replay.make_in.Goals as goal

pub returns-in_err-prepared-clause-indexes : goal.returns-in_err-prepared-clause-indexes
returns-in_err-prepared-clause-indexes c n none = λ i. (meaning_of (c.prepare.ensures.lists i)).index n

pub returns-clause-step : goal.returns-clause-step
returns-clause-step c =
    c.apply.ensures.step c.args.step c.in_ok-prepared.ensures.parts
    ∙ (λ i. after (meaning_of (c.prepare.ensures.lists i)) (step_of c.args.step))

pub returns-clause-indexes : goal.returns-clause-indexes
returns-clause-indexes c n none =
    unspoken (meaning c.args.state.now) (meaning c.apply.new.self) (step_of c.args.step) n
    (c.apply.ensures.step c.args.step c.in_ok-prepared.ensures.parts
    ∙ (λ i. after (meaning_of (c.prepare.ensures.lists i)) (step_of c.args.step))) none
