-- The index that a state lends.
use Rattle.std.specs.Prelude.{◌≡◌, Option, Some, None}
use Rattle.conflicts.specs.State.{Text}
use Rattle.replica_state.specs.Held.{Held, meaning}
use Rattle.replica_state.specs.Keyed.{IsTable}
use Rattle.replica_state.specs.declared.index.Index.{Index}

-- it has the expressions of the index of that name, and its table has just the pairs of the documents' keys and ids;
-- there is none exactly where the state has no index of that name
abbrev pub IsLent : Held → Text → Option Index → Type 0
IsLent s name (Some index) = ((meaning s).index name ≡ Some index.exprs.texts) × IsTable s.collection.docs.pairs index
IsLent s name None = (meaning s).index name ≡ None
