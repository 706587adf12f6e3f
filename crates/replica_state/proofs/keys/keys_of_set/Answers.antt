-- The keys of the part that is made are those of the content.
use Rattle.std.proofs.Common.{◌≡◌, ◌∙◌, IfOk, List, ap, rules, ℕ, subst}
use Rattle.content.specs.Parts.{part_of}
use Rattle.content.specs.TreeOf.{tree_of}
use Rattle.expr_eval.specs.Keys.{keys_of}
use Rattle.expr_eval.proofs.AskedParts.{keys_same}
use Rattle.expr_parser.specs.Reading.{forms_in}
use Rattle.replica_state.proofs.keys.keys_of_set.Goals as goal

pub returns-in_ok-root-in-Some-clause-value : goal.returns-in_ok-root-in-Some-clause-value
returns-in_ok-root-in-Some-clause-value c =
    let forms = forms_in c.args.exprs.now.texts in
    let content = c.in-Some.content in
    let same : keys_of forms (tree_of c.in_ok-root-in-Some.root) ≡ keys_of forms content =
    ap (keys_of forms) (c.in_ok-root-in-Some.ensures ∙ ap (λ (ns : List (List ℕ)). part_of ns content) c.requires)
    ∙ keys_same forms content in
    let value : IfOk c.keys_of_root.result (λ keys. keys ≡ keys_of forms content) =
    subst (λ (all : List (List (List ℕ))). IfOk c.keys_of_root.result (λ keys. keys ≡ all)) same c.keys_of_root.ensures.value in
    search rules
