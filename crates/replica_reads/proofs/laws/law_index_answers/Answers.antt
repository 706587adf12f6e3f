-- By the documents of the table.
use Rattle.replica_reads.proofs.LentAnswers.{lent_answers}
use Rattle.replica_reads.proofs.laws.law_index_answers.Goals as goal

pub returns : goal.returns
returns c = lent_answers
