-- No step was made before, and all of them are in the end; or one was not.
use Rattle.replica_volume.proofs.Replay.{all_err, replayed_none}
use Rattle.replica_volume.proofs.replaying.replay.Goals as goal

pub make_all-requires : goal.make_all-requires
make_all-requires c = replayed_none c.args.image.now _ _ c.in_ok-made.ensures.state c.in_ok-made.ensures.uids

pub returns-in-Err : goal.returns-in-Err
returns-in-Err c = all_err c.args.image.now c.make_all.new.made c.in-Err.fault c.in-Err.ensures
