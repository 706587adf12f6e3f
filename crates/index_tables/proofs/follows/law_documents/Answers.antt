-- What documents tell.
use Rattle.index_tables.proofs.Documents.{one_table, wide}
use Rattle.index_tables.proofs.follows.law_documents.Goals as goal

pub returns : goal.returns
returns c = record { one = one_table; width = wide }
