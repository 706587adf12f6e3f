-- Who counts nothing counts under the name of the blank.
use Rattle.rows_documents.proofs.tables.uncounted.Given as goal

abbrev pub ghosts-asked : goal.ghosts-asked
ghosts-asked a = record { name = a.blank.name; parts = a.blank.parts }
