-- Who counts nothing counts under the name of the blank.
use Rattle.replica_reads.proofs.uncounted.query_index_range.Given as goal

abbrev pub ghosts-counted_range : goal.ghosts-counted_range
ghosts-counted_range a = record { name = a.blank.name; parts = a.blank.parts }
