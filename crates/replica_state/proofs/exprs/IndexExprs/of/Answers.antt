-- There are as many forms as expressions.
use Rattle.std.proofs.Common.{map, arith}
use Rattle.std.proofs.lemmas.List.{length-map}
use Rattle.expr_parser.specs.FormOf.{form_of}
use Rattle.replica_state.specs.inner.Exprs.{read_all}
use Rattle.replica_state.proofs.exprs.IndexExprs.of.Goals as goal

pub invariant_of-result : goal.invariant_of-result
invariant_of-result c = (
  read_all (map form_of c.args.exprs) c.requires.read,
  (
    omega (arith, length-map c.args.exprs form_of, c.requires.some),
    (omega (arith, length-map c.args.exprs form_of, c.requires.few), tt),
  ),
)
