-- The text that is kept is the canonical one of the tree that it reads as.
use Rattle.std.proofs.Common.{Some, sym, ap, ◌∙◌, subst}
use Rattle.content.specs.Canonical.{canonical}
use Rattle.content.specs.Contents.{IsContent}
use Rattle.content.specs.Reading.{content_in}
use Rattle.content.proofs.SpelledTrees.{IsContent-spelled_tree, canonical-spelled_tree, content_in-spelled}
use Rattle.content.proofs.contents.Content.as_str.Goals as goal

pub returns-clause-text : goal.returns-clause-text
returns-clause-text c =
    c.as_str.ensures ∙ sym (canonical-spelled_tree c.self.inside.text c.self.invariant) ∙ ap canonical c.self.view_is

pub returns-clause-content : goal.returns-clause-content
returns-clause-content c =
    subst IsContent c.self.view_is (IsContent-spelled_tree c.self.inside.text c.self.invariant)

pub returns-clause-reads_back : goal.returns-clause-reads_back
returns-clause-reads_back c =
    ap content_in c.as_str.ensures ∙ content_in-spelled c.self.inside.text c.self.invariant ∙ ap Some c.self.view_is
