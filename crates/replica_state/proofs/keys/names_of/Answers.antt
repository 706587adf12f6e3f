-- The expressions are those of the texts.
use Rattle.std.proofs.Common.{◌≡◌, List, subst}
use Rattle.std.specs.Prelude.{IfOk}
use Rattle.expr_parser.specs.Forms.{Form}
use Rattle.expr_eval.specs.Asked.{all_names_asked}
use Rattle.replica_state.proofs.keys.names_of.Goals as goal

pub returns : goal.returns
returns c =
    subst (λ (fs : List Form). IfOk c.names.result (λ names. names ≡ all_names_asked fs))
    c.as_slice.ensures.forms c.names.ensures
