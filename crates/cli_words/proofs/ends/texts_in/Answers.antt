use Rattle.std.proofs.Common.{rules, ◌≡◌, ◌∙◌, sym, Some}
use Rattle.serde_json.specs.Find.{as_str}
use Rattle.serde_json.specs.View.{view}
use Rattle.cli_words.proofs.Lists.{texts_more, texts_end}
use Rattle.cli_words.proofs.ends.texts_in.Goals as goal

pub loop-item-preserved : goal.loop-item-preserved
loop-item-preserved c =
    let text : as_str (view c.item-item.result) ≡ Some c.in-Some.text.now = search rules in
    c.loop-item.invariant
    ∙ texts_more c.loop-item.texts c.push.new.self c.args.items.now c.loop-item.item-index c.item-item.result
    c.in-Some.text.now
    (search rules) c.item-item.is text (search rules)

pub returns : goal.returns
returns c = sym (c.loop-item.invariant
    ∙ texts_end c.loop-item.texts c.args.items.now c.loop-item.item-index (search rules))
