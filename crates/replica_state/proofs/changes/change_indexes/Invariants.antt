-- The last indexes are changed, and the changes of the others are left.
use Rattle.std.proofs.Common.{◌≡◌, ◌≤◌, length, map, take, vec_len}
use Rattle.std.specs.List.{AllWithin}
use Rattle.std.specs.FinMap.Entries.{find, put}
use Rattle.u1_base.specs.Ids.{id_cmp}
use Rattle.replica_state.specs.Keyed.{IsTable}
use Rattle.replica_state.specs.inner.Named.{HasRoom, name_of}
use Rattle.replica_state.specs.Prepared.{key_change}
use Rattle.replica_state.proofs.changes.change_indexes.Given as goal

abbrev pub invariant-loop-change : goal.invariant-loop-change
invariant-loop-change l = record {
  within : vec_len l.changes ≤ length l.indexes.items;
  changes : l.changes.items ≡ map (λ x. key_change l.id (find id_cmp l.id l.docs.pairs) l.set x.exprs.texts)
      (take (vec_len l.changes) l.indexes.items);
  tied : AllWithin (IsTable l.docs.pairs) l.indexes.items 0 (vec_len l.changes);
  room : AllWithin (HasRoom l.set) l.indexes.items 0 (vec_len l.changes);
  done : AllWithin (IsTable (put id_cmp l.id l.set l.docs.pairs)) l.indexes.items (vec_len l.changes)
      (length l.indexes.items);
  names : map name_of l.indexes.items ≡ map name_of l.fn.indexes.items;
}

abbrev pub decreases-loop-change : goal.decreases-loop-change
decreases-loop-change l = vec_len l.changes
