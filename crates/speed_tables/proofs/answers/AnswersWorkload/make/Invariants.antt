-- Who counts nothing counts under the name of the blank.
use Rattle.speed_tables.proofs.answers.AnswersWorkload.make.Given as goal

abbrev pub ghosts-have_width : goal.ghosts-have_width
ghosts-have_width a = record { name = a.blank.name; parts = a.blank.parts }
