-- The indexes of a state, apart from what else it has.
use Rattle.std.specs.Prelude.{◌≡◌, None}
use Rattle.std.specs.FinMap.Entries.{find}
use Rattle.u1_base.specs.Ids.{id_cmp}
use Rattle.conflicts.specs.State.{State, Text}
use Rattle.replica_state.specs.Held.{Held, Names, meaning}

-- the state has no index
abbrev pub HasNoIndex : Held → Type 0
HasNoIndex s = (n : Text) → (meaning s).index n ≡ None

-- a state with these indexes in the place of its own
abbrev pub with_indexes : State → Names → State
with_indexes s names = record {
  name = s.name;
  uid = s.uid;
  document = s.document;
  log = s.log;
  position = s.position;
  index = λ n. find id_cmp n names;
}
