-- The tokens of the list are its text.
use Rattle.std.proofs.Common.{◌∙◌, arith}
use Rattle.command_lines.proofs.JsonLists.{json_written}
use Rattle.command_lines.proofs.indexes.spelled_list.Goals as goal

pub returns : goal.returns
returns c =
    c.from_vec.ensures
    ∙ json_written c.args.texts.now c.loop-text.text-index _ _ _ _ _ (omega (arith, c.loop-text-test.false))
    c.loop-text.invariant.0 c.loop-text.invariant.1 c.in_ok-end_array.ensures.room.0 c.in_ok-end_array.ensures.ok
    c.into_inner.ensures.items
