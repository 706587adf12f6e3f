-- The changes of the first indexes are made, and these have room.
use Rattle.std.proofs.Common.{◌≡◌, ◌≤◌, ◌-◌, length, map, take}
use Rattle.std.specs.Prelude.{option_copied}
use Rattle.std.specs.List.{AllWithin}
use Rattle.replica_state.specs.inner.Named.{HasRoom, bare}
use Rattle.replica_state.specs.Prepared.{key_change}
use Rattle.replica_state.proofs.changes.prepare_indexes.Given as goal

abbrev pub invariant-loop-at : goal.invariant-loop-at
invariant-loop-at l = record {
  within : l.at ≤ length l.indexes.items;
  same : map bare l.indexes.items ≡ map bare l.fn.indexes.items;
  changes : l.changes.items ≡ map (λ x. key_change l.id (option_copied l.old) l.new x.exprs.texts)
      (take l.at l.indexes.items);
  room : AllWithin (HasRoom l.new) l.indexes.items 0 l.at;
}

abbrev pub decreases-loop-at : goal.decreases-loop-at
decreases-loop-at l = length l.indexes.items - l.at
