-- Both ways.
use Rattle.u1_base.proofs.SameIds.{is_same_id, same_id_is}
use Rattle.u1_base.proofs.laws.law_same_id.Goals as goal

pub returns : goal.returns
returns c wanted id = (same_id_is wanted id, is_same_id wanted id)
