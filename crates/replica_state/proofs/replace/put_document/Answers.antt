-- The tables are those of the documents with the one that is put.
use Rattle.std.proofs.Common.{sym, subst}
use Rattle.replica_state.specs.Keyed.{AreTables, Docs}
use Rattle.replica_state.proofs.replace.put_document.Goals as goal

pub returns-clause-tied : goal.returns-clause-tied
returns-clause-tied c = subst (λ (d : Docs). AreTables d c.change_indexes.new.indexes.items)
    (sym c.put.ensures.pairs) c.change_indexes.ensures.tied
