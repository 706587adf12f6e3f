-- Texts are the same exactly where the expressions are.
use Rattle.replica_core.proofs.CallsIndexes.{texts_tell}
use Rattle.replica_core.proofs.calls.indexes.have_same_texts.Goals as goal

pub returns : goal.returns
returns c = texts_tell c.law_index_texts.ensures c.args.kept.now c.args.exprs.now _ _ c.are_same.result
    c.as_slice.ensures.forms c.as_slice-2.ensures.forms c.are_same.ensures
