-- The tree that is made of the text is the one that the text reads as.
use Rattle.std.proofs.Common.{ap, ◌∙◌, subst}
use Rattle.content.specs.Contents.{IsContent}
use Rattle.content.specs.Spelled.{spelled_tree}
use Rattle.content.specs.TreeOf.{tree_of}
use Rattle.content.proofs.SpelledTrees.{IsContent-spelled_tree, spelled_tree-Reads}
use Rattle.content.proofs.contents.Content.read_root.Goals as goal

pub returns-in-Ok-clause-root : goal.returns-in-Ok-clause-root
returns-in-Ok-clause-root c =
    spelled_tree-Reads c.as_bytes-bytes.result.now (tree_of c.in-Ok.root) c.in-Ok.ensures.reads
    ∙ ap spelled_tree (c.as_bytes-bytes.ensures.value ∙ c.as_str.ensures) ∙ c.self.view_is

pub returns-in-Ok-clause-content : goal.returns-in-Ok-clause-content
returns-in-Ok-clause-content c =
    subst IsContent c.self.view_is (IsContent-spelled_tree c.self.inside.text c.self.invariant)

pub returns-clause-content : goal.returns-clause-content
returns-clause-content c =
    subst IsContent c.self.view_is (IsContent-spelled_tree c.self.inside.text c.self.invariant)
