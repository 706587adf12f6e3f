use Rattle.record_codec.proofs.BodyLaws.{first_bodies}
use Rattle.record_codec.proofs.laws.law_first_bodies.Goals as goal

pub returns : goal.returns
returns c = first_bodies
