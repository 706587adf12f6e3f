-- A change of one document.
use Rattle.index_tables.proofs.Documents.{new_after, put_table}
use Rattle.index_tables.proofs.follows.law_changes.Goals as goal

pub returns : goal.returns
returns c = record {
  are_new = λ documents entries id keys is. new_after documents entries id is keys;
  is_table = λ documents entries new id keys is both. put_table documents entries id is keys new both;
}
