-- The list of indexes behind a state. `heading` is also in the public clause of `State::indexes`; only private clauses
-- speak of the rest.
use Rattle.std.specs.Prelude.{List, map, T}
use Rattle.std.specs.FinMap.Entries.{is_sorted}
use Rattle.u1_base.specs.Ids.{id_cmp}
use Rattle.replica_state.specs.Held.{Heading, named}
use Rattle.replica_state.specs.declared.index.Index.{Index}

abbrev pub heading : Index → Heading
heading x = record { name = x.name; exprs = x.exprs.texts; room = x.table.room }

-- the indexes are in the order of their names, each once
abbrev pub AreNamed : List Index → Type 0
AreNamed xs = T (is_sorted id_cmp (named (map heading xs)))
