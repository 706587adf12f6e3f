-- Who counts nothing counts under the name of the blank.
use Rattle.replica_reads.proofs.uncounted.query_index.Given as goal

abbrev pub ghosts-counted_query : goal.ghosts-counted_query
ghosts-counted_query a = record { name = a.blank.name; parts = a.blank.parts }
