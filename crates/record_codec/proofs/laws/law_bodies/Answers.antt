use Rattle.record_codec.proofs.BodyLaws.{bodies}
use Rattle.record_codec.proofs.laws.law_bodies.Goals as goal

pub returns : goal.returns
returns c = bodies
