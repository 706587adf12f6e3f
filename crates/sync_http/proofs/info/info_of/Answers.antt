-- Both sides were read.
use Rattle.std.proofs.Common.{◌≡◌, Some, codes, refl}
use Rattle.serde_json.specs.View.{view}
use Rattle.sync_http.specs.Bodies.{info_of, side_in}
use Rattle.sync_http.proofs.info.info_of.Goals as goal

pub returns : goal.returns
unfolding info_of
returns c =
    let d = view c.args.value.now in
    let target : side_in (codes "target_replica_uid") (codes "target_replica_generation")
    (codes "target_replica_transaction_id") d ≡ Some c.in-Some.target = cc (c.in_ok-target.ensures, c.in-Some.is) in
    let source : side_in (codes "source_replica_uid") (codes "source_replica_generation")
    (codes "source_transaction_id") d ≡ Some c.in-Some-2.source = cc (c.in_ok-source.ensures, c.in-Some-2.is) in
    rw (target, source) refl
