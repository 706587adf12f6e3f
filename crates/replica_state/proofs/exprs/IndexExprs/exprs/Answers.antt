-- The texts read as the expressions whose canonical texts they are.
use Rattle.std.proofs.Common.{◌∙◌, map, sym}
use Rattle.std.proofs.lemmas.List.{length-map}
use Rattle.expr_parser.specs.Canonical.{canonical}
use Rattle.expr_parser.specs.FormOf.{form_of}
use Rattle.expr_parser.proofs.ReadBack.{texts_of_exprs}
use Rattle.replica_state.specs.Exprs.{all_read}
use Rattle.replica_state.proofs.exprs.IndexExprs.exprs.Goals as goal

pub returns-clause-forms : goal.returns-clause-forms
returns-clause-forms c = rw (← c.self.view_is)
    (sym (texts_of_exprs (map form_of c.self.inside.exprs)
    (all_read (map form_of c.self.inside.exprs) c.self.inside.read) c.self.inside.some c.self.inside.few).1)

pub returns-clause-count : goal.returns-clause-count
returns-clause-count c = rw (← c.self.view_is)
    (sym (length-map (map form_of c.self.inside.exprs) canonical ∙ length-map c.self.inside.exprs form_of))
