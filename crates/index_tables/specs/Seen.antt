-- The entries that pairs of the program stand for, and where one of them is sought.
use Rattle.std.specs.Prelude.{List, map}
use Rattle.index_tables.specs.Order.{Entry}
use Rattle.index_tables.specs.declared.pair.Pair.{Pair}

abbrev pub entry_of : Pair → Entry
entry_of pair = (pair.key, pair.id)

abbrev pub seen : List Pair → List Entry
seen pairs = map entry_of pairs
