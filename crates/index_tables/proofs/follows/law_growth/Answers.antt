-- One document more.
use Rattle.std.proofs.Common.{refl}
use Rattle.index_tables.proofs.Documents.{new_document, push_table}
use Rattle.index_tables.proofs.follows.law_growth.Goals as goal

pub returns : goal.returns
returns c = record {
  starts = λ p. refl;
  are_new = λ documents entries id keys is none. new_document documents entries id is none keys;
  is_table = λ documents entries new id keys is none both. push_table documents entries id is none keys new both;
}
