use Rattle.content.proofs.SpelledTrees.{IsUtf8-spelled}
use Rattle.content.proofs.contents.Content.of_text.Goals as goal

pub unreachable-requires : goal.unreachable-requires
unreachable-requires c = c.in-Err.ensures.cases.0 (IsUtf8-spelled c.args.bytes.now c.requires)
