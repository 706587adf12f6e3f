use Rattle.std.proofs.Common.{◌≡◌, ◌∙◌}
use Rattle.std.proofs.lemmas.Result.{IfOk-weaker}
use Rattle.content.specs.Spelled.{spelled_tree}
use Rattle.content.specs.TreeOf.{tree_of}
use Rattle.content.proofs.SpelledTrees.{spelled_tree-is}
use Rattle.content.proofs.contents.Content.of_root.Goals as goal

pub returns : goal.returns
returns c =
    let text = c.as_slice.result.now in
    let tree = tree_of c.args.root.now in
    IfOk-weaker c.of_text.result (λ x. x ≡ spelled_tree text) (λ x. x ≡ tree)
    (λ _ is. is ∙ spelled_tree-is text tree c.requires (c.as_slice.ensures.value ∙ c.in_ok-text.ensures))
    c.of_text.ensures
