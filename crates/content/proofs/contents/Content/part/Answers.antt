-- The part that is made is that of the tree that the text reads as.
use Rattle.std.proofs.Common.{[], ap, ◌∙◌, subst}
use Rattle.content.specs.Parts.{part_of}
use Rattle.content.specs.inner.Pieces.{IsPartBefore}
use Rattle.content.specs.TreeOf.{tree_of}
use Rattle.content.proofs.MadeTrees.{made_is}
use Rattle.content.proofs.contents.Content.part.Goals as goal

pub returns-in-Ok : goal.returns-in-Ok
returns-in-Ok c =
    let text = c.self.inside.text in
    let names = c.args.names.now in
    let before = subst (λ bytes. IsPartBefore names bytes (tree_of c.in-Ok.root))
    (c.as_bytes-bytes.ensures.value ∙ c.as_str.ensures) c.in-Ok.ensures in
    before.2 ∙ ap (part_of names) (made_is text before.0 c.self.invariant before.1 ∙ c.self.view_is)
