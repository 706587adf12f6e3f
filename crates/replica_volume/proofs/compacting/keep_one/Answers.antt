-- What may be left of the step is kept, or the body has no reading.
use Rattle.std.proofs.lemmas.Result.{err_from_is_err_and}
use Rattle.record_codec.specs.Decoding.{recorded}
use Rattle.replica_state.specs.Held.{meaning}
use Rattle.replica_volume.proofs.Compacts.{one_err}
use Rattle.replica_volume.proofs.compacting.keep_one.Goals as goal

pub returns-in_err-decoded : goal.returns-in_err-decoded
returns-in_err-decoded c =
    let why = err_from_is_err_and c.from_residual.result c.from_residual.ensures.1 in
    rw (why.1, why.2)
    (one_err (meaning c.args.state.now) c.args.format c.args.entry.now.place c.args.entry.now.body.now c.args.kept.now
    c.args.kept.now c.in_err-decoded.field-0.0 c.in_err-decoded.ensures.says)

pub returns-in_err-keep : goal.returns-in_err-keep
returns-in_err-keep c =
    let why = err_from_is_err_and c.from_residual-in_err-keep.result c.from_residual-in_err-keep.ensures.1 in
    rw (why.1, why.2) tt

pub returns : goal.returns
returns c = record {
  said = recorded c.in_ok-decoded.decoded;
  reads = c.in_ok-decoded.ensures.says;
  spelled = c.in_ok-decoded.ensures.spelled;
  uids = c.in_ok-keep.ensures.uids;
  steps = c.in_ok-keep.ensures.steps;
}
