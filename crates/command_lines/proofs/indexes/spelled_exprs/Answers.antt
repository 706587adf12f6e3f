-- The texts of the expressions are those of the index.
use Rattle.std.proofs.Common.{arith}
use Rattle.command_lines.proofs.JsonLists.{spelled_all}
use Rattle.command_lines.proofs.indexes.spelled_exprs.Goals as goal

pub returns : goal.returns
returns c =
    spelled_all c.as_slice-expr-items.result.now c.args.exprs.now.texts c.loop-expr.expr-index _
    c.law_index_texts.ensures c.args.exprs.now.spelled
    c.as_slice-expr-items.ensures.forms (omega (arith, c.loop-expr-test.false)) c.loop-expr.invariant
