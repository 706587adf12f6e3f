use Rattle.volume.proofs.Standing.{store_stands}
use Rattle.volume.proofs.laws.law_store.Goals as goal

pub returns : goal.returns
returns c = store_stands
