use Rattle.sync_stream.proofs.Bodies.{body_passes, passes_body}
use Rattle.sync_stream.proofs.laws.law_bodies.Goals as goal

pub returns : goal.returns
returns c = record { passes = body_passes; only = passes_body }
