-- What is left waits over what was applied.
use Rattle.std.proofs.Common.{◌≡◌}
use Rattle.std.specs.Vec.Iter.{into_iter_items}
use Rattle.replica_state.specs.Held.{meaning}
use Rattle.replica_state.specs.Indexes.{HasNoIndex}
use Rattle.replica_state.specs.Waiting.{with_accepted}
use Rattle.replica_state.proofs.settling.accept_all.Given as goal

abbrev pub invariant-loop-waits : goal.invariant-loop-waits
invariant-loop-waits l = record {
  left : with_accepted (meaning l.state) (into_iter_items l.waits-iterator)
      ≡ with_accepted (meaning l.fn.state) l.fn.waiting.items;
  none : HasNoIndex l.state;
}
