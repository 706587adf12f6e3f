-- After every list of steps histories descend, so nothing that was accepted is lost.
use Rattle.lineage.proofs.Descended.{cover}
use Rattle.sync_world.specs.World.{after_all, histories, start}
use Rattle.sync_world.proofs.Traced.{after_all_is, start_is}
use Rattle.sync_world.proofs.laws.law_cover.Goals as goal

pub returns : goal.returns
returns c = λ name steps.
    cover (histories (after_all (start name) steps)) (after_all_is (start name) (start_is name) steps).descends
