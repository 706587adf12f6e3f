-- What was written is the body.
use Rattle.std.proofs.Common.{◌∙◌}
use Rattle.replica_state.specs.Steps.{step_of}
use Rattle.record_codec.proofs.Writings.{body_is}
use Rattle.record_codec.proofs.encoding.spell.Goals as goal

pub returns-clause-body : goal.returns-clause-body
returns-clause-body c =
    c.into_parts-bytes.ensures.bytes
    ∙ (body_is c.args.uids.now.uids (step_of c.args.step.now) c.in_ok-writer.writer c.write_step.new.writer
    c.in_ok-writer.ensures c.in_ok-write_step.ensures.wrote).0

pub returns-clause-added : goal.returns-clause-added
returns-clause-added c =
    c.into_parts-bytes.ensures.added
    ∙ (body_is c.args.uids.now.uids (step_of c.args.step.now) c.in_ok-writer.writer c.write_step.new.writer
    c.in_ok-writer.ensures c.in_ok-write_step.ensures.wrote).1
