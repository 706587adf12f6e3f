-- After every list of steps histories descend, so clocks say what ancestry says.
use Rattle.lineage.proofs.Descended.{ancestry}
use Rattle.sync_world.specs.World.{after_all, histories, start}
use Rattle.sync_world.proofs.Traced.{after_all_is, start_is}
use Rattle.sync_world.proofs.laws.law_ancestry.Goals as goal

pub returns : goal.returns
returns c = λ name steps.
    ancestry (histories (after_all (start name) steps)) (after_all_is (start name) (start_is name) steps).descends
