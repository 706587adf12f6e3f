-- States with one meaning.
use Rattle.std.specs.Prelude.{◌≡◌}
use Rattle.replica_state.specs.Held.{Held, lists_of, meaning}

-- two states that stand for one state of a history have the same lists. Their room may differ
abbrev pub MeaningTellsLists : Type 0
MeaningTellsLists = (x y : Held) → meaning x ≡ meaning y → lists_of x ≡ lists_of y
