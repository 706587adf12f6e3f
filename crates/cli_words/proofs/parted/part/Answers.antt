use Rattle.std.proofs.Common.{rules, ◌∙◌, sym}
use Rattle.cli_words.proofs.Lists.{part_step, parted_ends}
use Rattle.cli_words.proofs.parted.part.Goals as goal

pub loop-place-preserved : goal.loop-place-preserved
loop-place-preserved c =
    part_step c.loop-place.parted _ c.loop-place.next _ c.args.words.now c.loop-place.place c.as_str-text.result.now
    c.role_of.result c.new-word.result _
    (search rules) (search rules) (search rules) (search rules) (search rules) (search rules) c.loop-place.invariant

pub returns : goal.returns
returns c = sym (parted_ends c.loop-place.parted c.loop-place.next c.args.words.now c.loop-place.place (search rules))
    ∙ c.loop-place.invariant
