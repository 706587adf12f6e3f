-- In format 1 no uid has a number.
use Rattle.std.proofs.Common.{Ok, arith}
use Rattle.record_codec.proofs.Answered.{first_says, alone_ok, alone_err}
use Rattle.record_codec.proofs.decoding.decode_first.Goals as goal

pub returns-in-Ok-clause-reads : goal.returns-in-Ok-clause-reads
returns-in-Ok-clause-reads c =
    alone_ok c.none-unnumbered.result.uids c.args.bytes.now c.in-Ok.decoded c.into_step.result
    c.none-unnumbered.ensures c.in-Ok.ensures.reads c.into_step.ensures

pub returns-in-Ok-clause-says : goal.returns-in-Ok-clause-says
returns-in-Ok-clause-says c =
    first_says c.args.bytes.now (Ok c.into_step.result) (λ i. omega (arith, c.type_inv.bytes i))
    (alone_ok c.none-unnumbered.result.uids c.args.bytes.now c.in-Ok.decoded c.into_step.result
    c.none-unnumbered.ensures c.in-Ok.ensures.reads c.into_step.ensures)

pub returns-clause-reads : goal.returns-clause-reads
returns-clause-reads c = alone_err c.none-unnumbered.result.uids c.args.bytes.now c.in-Err.fault
    c.none-unnumbered.ensures c.in-Err.ensures.reads
