-- The name is none of those so far.
use Rattle.std.proofs.Common.{◌≡◌, drop}
use Rattle.replica_state.specs.inner.Named.{first_named}
use Rattle.replica_state.proofs.naming.find_index.Given as goal

abbrev pub invariant-loop-index : goal.invariant-loop-index
invariant-loop-index l = first_named l.name l.indexes ≡ first_named l.name (drop l.index-index l.indexes)
