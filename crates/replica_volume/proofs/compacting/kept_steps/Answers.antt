-- No step was kept before, and what is left of all in the end; or a body has no reading.
use Rattle.replica_state.specs.Held.{meaning}
use Rattle.replica_volume.proofs.Compacts.{all_err, kept_none}
use Rattle.replica_volume.proofs.compacting.kept_steps.Goals as goal

pub keep_all-requires : goal.keep_all-requires
keep_all-requires c =
    kept_none (meaning c.args.state.now) c.args.image.now c.in_ok-kept.kept c.in_ok-kept.ensures.steps
    c.in_ok-kept.ensures.uids

pub returns-in-Err : goal.returns-in-Err
returns-in-Err c =
    all_err (meaning c.args.state.now) c.args.image.now c.keep_all.new.kept c.in-Err.fault c.in-Err.ensures
