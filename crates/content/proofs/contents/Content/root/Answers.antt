-- The tree that is made of the text is the one that the text reads as.
use Rattle.std.proofs.Common.{◌≡◌, [], ap, ◌∙◌, subst}
use Rattle.content.specs.Contents.{IsContent}
use Rattle.content.specs.inner.Fronts.{IsBefore}
use Rattle.content.specs.TreeOf.{tree_of}
use Rattle.content.proofs.MadeTrees.{made_is}
use Rattle.content.proofs.SpelledTrees.{IsContent-spelled_tree}
use Rattle.content.proofs.contents.Content.root.Goals as goal

pub returns-in-Ok-clause-root : goal.returns-in-Ok-clause-root
returns-in-Ok-clause-root c =
    let root = tree_of c.in-Ok.root in
    made_is c.self.inside.text root c.self.invariant
    (subst (λ text. IsBefore 64 text root []) (c.as_bytes-bytes.ensures.value ∙ c.as_str.ensures) c.in-Ok.ensures)
    ∙ c.self.view_is

pub returns-in-Ok-clause-content : goal.returns-in-Ok-clause-content
returns-in-Ok-clause-content c =
    subst IsContent c.self.view_is (IsContent-spelled_tree c.self.inside.text c.self.invariant)

pub returns-in-Err-Memory-clause-content : goal.returns-in-Err-Memory-clause-content
returns-in-Err-Memory-clause-content c =
    subst IsContent c.self.view_is (IsContent-spelled_tree c.self.inside.text c.self.invariant)
