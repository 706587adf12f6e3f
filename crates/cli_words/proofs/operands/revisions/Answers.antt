use Rattle.std.proofs.Common.{rules, ◌≡◌, ◌∙◌, Ok, sym}
use Rattle.cli_words.specs.Operands.{revision}
use Rattle.cli_words.proofs.Lists.{each_more, each_ends}
use Rattle.cli_words.proofs.operands.revisions.Goals as goal

pub loop-word-preserved : goal.loop-word-preserved
loop-word-preserved c =
    let read : revision c.word-item.result ≡ Ok c.in-Ok.rev = search rules in
    c.loop-word.invariant
    ∙ each_more revision c.loop-word.revs c.push.new.self c.args.words.now c.loop-word.word-index
    c.word-item.result c.in-Ok.rev
    (search rules) c.word-item.is read (search rules)

pub returns : goal.returns
returns c = sym (c.loop-word.invariant
    ∙ each_ends revision c.loop-word.revs c.args.words.now c.loop-word.word-index (search rules))
