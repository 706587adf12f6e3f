use Rattle.compaction.proofs.Noting.{id_noted}
use Rattle.compaction.proofs.noted.note_id.Goals as goal

pub returns : goal.returns
returns g c = λ q. id_noted q _ _ _ _ _ _ c.put.ensures.pairs c.reserve.ensures.pairs c.in_ok-id.ensures
