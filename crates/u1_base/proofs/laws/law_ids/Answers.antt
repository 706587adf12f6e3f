-- The id in a text is the text.
use Rattle.u1_base.proofs.IdFacts.{in_id, in_some}
use Rattle.u1_base.proofs.laws.law_ids.Goals as goal

pub returns : goal.returns
returns c = record { back = in_id; only = in_some }
