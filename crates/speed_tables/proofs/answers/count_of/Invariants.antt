-- Who counts nothing counts under the name of the blank.
use Rattle.speed_tables.proofs.answers.count_of.Given as goal

abbrev pub ghosts-counted : goal.ghosts-counted
ghosts-counted a = record { name = a.blank.name; parts = a.blank.parts }
