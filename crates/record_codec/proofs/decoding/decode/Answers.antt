-- What was read says the step.
use Rattle.std.proofs.Common.{arith}
use Rattle.record_codec.proofs.Answered.{decoded_says}
use Rattle.record_codec.proofs.decoding.decode.Goals as goal

pub returns-clause-says : goal.returns-clause-says
returns-clause-says c = decoded_says c.args.uids.now.uids c.args.bytes.now c.record.result
    c.as_slice-uids.ensures.numbered (λ i. omega (arith, c.type_inv.bytes i)) c.record.ensures.reads
