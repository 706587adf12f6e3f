-- A canonical text reads as its content; of any other text the tree is made.
use Rattle.std.proofs.Common.{sym, subst}
use Rattle.content.specs.Faults.{Reads}
use Rattle.content.specs.TreeOf.{tree_of}
use Rattle.content.proofs.SpelledTrees.{IsContent-Reads, Reads-spelled}
use Rattle.content.proofs.contents.content_of.Goals as goal

pub returns-then-is_spelled-clause-reads : goal.returns-then-is_spelled-clause-reads
returns-then-is_spelled-clause-reads c =
    subst (Reads c.args.bytes.now) (sym c.in_ok-content.ensures)
    (Reads-spelled c.args.bytes.now (c.is_spelled.ensures c.if-is_spelled.true))

pub of_root-requires : goal.of_root-requires
of_root-requires c = IsContent-Reads c.args.bytes.now (tree_of c.in_ok-root.root) c.in_ok-root.ensures.reads
