-- Bytes are left behind the last field.
use Rattle.replica_state.specs.Steps.{step_of}
use Rattle.record_codec.proofs.Answered.{left_over}
use Rattle.record_codec.proofs.decoding.read_whole.Goals as goal

pub returns-then-left-ne0 : goal.returns-then-left-ne0
returns-then-left-ne0 c =
    left_over c.args.format c.args.uids.now.uids c.args.bytes.now
    (step_of c.in_ok-step.step) c.new-reader.result c.read_step.new.reader c.left-left.result c.new-reader.ensures
    c.in_ok-step.ensures c.left-left.ensures c.if-left-ne0.true
