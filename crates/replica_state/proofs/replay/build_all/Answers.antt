-- The last index of the list is built, or none is left.
use Rattle.std.proofs.Common.{◌∙◌, arith, ap}
use Rattle.std.proofs.lemmas.List.{nil_from_length}
use Rattle.conflicts.specs.State.{State}
use Rattle.replica_state.specs.Held.{meaning}
use Rattle.replica_state.specs.inner.Named.{names_of}
use Rattle.replica_state.proofs.Replaying.{all_made, made_last, over, over_none}
use Rattle.replica_state.proofs.replay.build_all.Goals as goal

pub loop-index-init : goal.loop-index-init
loop-index-init c = over_none c.args.state (names_of c.args.listed.items) c.requires

pub loop-index-preserved : goal.loop-index-preserved
loop-index-preserved c =
    ap (λ (s : State). over s (names_of c.pop.new.self.items)) c.in_ok-make_in.ensures.step
    ∙ made_last (meaning c.loop-index.state) c.in-Some.index c.loop-index.listed.items c.pop.new.self.items
    c.in-Some.ensures.items
    ∙ c.loop-index.invariant

pub returns : goal.returns
returns c =
    all_made (meaning c.loop-index.state) c.loop-index.listed.items
    (nil_from_length c.loop-index.listed.items
    (omega (arith, c.loop-index.listed.ok.0, c.in_default.ensures.cases)))
    ∙ c.loop-index.invariant
