-- The names so far are below the name.
use Rattle.std.proofs.Common.{◌≡◌, ◌+◌, drop}
use Rattle.replica_state.specs.inner.Named.{place_in}
use Rattle.replica_state.proofs.naming.place_of.Given as goal

abbrev pub invariant-loop-index : goal.invariant-loop-index
invariant-loop-index l = record {
  place : l.place ≡ l.index-index;
  below : place_in l.name l.indexes ≡ l.place + place_in l.name (drop l.index-index l.indexes);
}
