-- Who counts nothing counts under the name of the blank.
use Rattle.chunk_list.proofs.list.ChunkList.find_near.Given as goal

abbrev pub ghosts-counted : goal.ghosts-counted
ghosts-counted g a = record { name = a.blank.name; parts = a.blank.parts }
