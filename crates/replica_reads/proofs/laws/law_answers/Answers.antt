-- Answers and keys by documents.
use Rattle.replica_reads.proofs.AnswersBy.{is_answer, one_answer_by}
use Rattle.replica_reads.proofs.KeysBy.{are_keys, one_keys}
use Rattle.replica_reads.proofs.Listing.{contents}
use Rattle.replica_reads.proofs.laws.law_answers.Goals as goal

pub returns : goal.returns
returns c = record {
  answer = λ wanted documents sorted. is_answer wanted documents sorted;
  one_answer = λ wanted documents ids sorted a. one_answer_by wanted documents sorted ids a;
  keys = λ documents sorted. are_keys documents sorted;
  one_list = λ documents keys sorted k. one_keys documents sorted keys k;
  contents = contents;
}
