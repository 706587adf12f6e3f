-- The expressions are those of the texts.
use Rattle.std.proofs.Common.{◌≡◌, List, subst}
use Rattle.std.specs.Prelude.{IfOk}
use Rattle.content.specs.TreeOf.{tree_of}
use Rattle.expr_parser.specs.Forms.{Form}
use Rattle.expr_eval.specs.Keys.{keys_of}
use Rattle.replica_state.proofs.keys.keys_of_root.Goals as goal

pub returns-clause-value : goal.returns-clause-value
returns-clause-value c =
    subst (λ (fs : List Form). IfOk c.keys.result (λ keys. keys ≡ keys_of fs (tree_of c.args.root.now)))
    c.as_slice.ensures.forms c.keys.ensures.value
