-- Who counts nothing counts under the name of the blank.
use Rattle.replica_reads.proofs.uncounted.list_index_keys.Given as goal

abbrev pub ghosts-counted_keys : goal.ghosts-counted_keys
ghosts-counted_keys a = record { name = a.blank.name; parts = a.blank.parts }
