-- Who counts nothing counts under the name of the blank.
use Rattle.document_tests.proofs.tables.stays_same.Given as goal

abbrev pub ghosts-agrees : goal.ghosts-agrees
ghosts-agrees a = record { name = a.blank.name; parts = a.blank.parts }
