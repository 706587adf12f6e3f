-- Answers by documents.
use Rattle.query_range.proofs.ByDocuments.{answer_by, keys_by, one_answer}
use Rattle.query_range.proofs.documents.law_answers.Goals as goal

pub returns : goal.returns
returns c = record {
  found = λ wanted documents entries ids is a. answer_by documents entries is wanted ids a;
  one = λ wanted documents ids others a b. one_answer wanted documents ids others a b;
  keys = λ documents entries keys is k. keys_by documents entries is keys k;
}
