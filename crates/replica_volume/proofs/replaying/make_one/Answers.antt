-- What the body says was made, or it has no reading.
use Rattle.std.proofs.lemmas.Result.{err_from_is_err_and}
use Rattle.record_codec.specs.Decoding.{recorded}
use Rattle.replica_volume.proofs.Replay.{one_err}
use Rattle.replica_volume.proofs.replaying.make_one.Goals as goal

pub returns-in_err-decoded : goal.returns-in_err-decoded
returns-in_err-decoded c =
    let why = err_from_is_err_and c.from_residual.result c.from_residual.ensures.1 in
    rw (why.1, why.2)
    (one_err c.args.entry.now.place _ c.args.made.now c.args.made.now c.in_err-decoded.field-0.0
    c.in_err-decoded.ensures.says)

pub returns-in_err-make : goal.returns-in_err-make
returns-in_err-make c =
    let why = err_from_is_err_and c.from_residual-in_err-make.result c.from_residual-in_err-make.ensures.1 in
    rw (why.1, why.2) tt

pub returns : goal.returns
returns c = record {
  said = recorded c.in_ok-decoded.decoded;
  reads = c.in_ok-decoded.ensures.says;
  uids = c.in_ok-make.ensures.uids;
  state = c.in_ok-make.ensures.state;
}
