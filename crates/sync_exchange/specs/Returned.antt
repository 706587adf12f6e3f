-- Which changes go back to a source.
use Rattle.std.specs.Prelude.{List, filter, not}
use Rattle.u1_base.specs.Places.{Place}
use Rattle.translog.specs.Entries.{changes_since}
use Rattle.translog.specs.declared.entry.Change.{Change}
use Rattle.conflicts.specs.State.{State}
use Rattle.sync_stream.specs.Serving.{Held, is_held}

-- the changes since the known place that the source does not have
abbrev pub changes_for : State → Place → List Held → List Change
changes_for s known held = filter (λ c. not (is_held held c)) (changes_since s.log known.generation)
