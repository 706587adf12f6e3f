-- One pair more for each key so far.
use Rattle.std.proofs.Common.{◌≡◌, ◌++◌}
use Rattle.index_tables.specs.Entries.{entries_of}
use Rattle.index_tables.specs.Seen.{seen}
use Rattle.index_tables.proofs.pairs.with_keys.Given as goal

abbrev pub invariant-loop-key : goal.invariant-loop-key
invariant-loop-key l = seen l.pairs.items ≡ seen l.fn.pairs.items ++ entries_of l.id l.yielded
