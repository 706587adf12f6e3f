-- The arguments are written one after another, with commas between.
use Rattle.std.proofs.Common.{string_bytes, codes, length, arith, ap, ◌∙◌}
use Rattle.expr_parser.proofs.Joined.{combined_all}
use Rattle.expr_parser.proofs.spell.+spelling.Goals as goal

pub spell_combine-returns : goal.spell_combine-returns
spell_combine-returns t c =
    c.in_ok-push_str-3.ensures.bytes
    ∙ combined_all c.loop-argument.mark.now c.args.arguments.now.items c.loop-argument.argument-index
    (omega (arith, c.loop-argument-test.false, ap length c.deref-argument-items.ensures.value))
    (string_bytes c.loop-argument.out) (string_bytes c.push_str.new.self) (codes "combine(")
    (string_bytes c.args.out.now) c.loop-argument.invariant.1 c.in_ok-push_str.ensures.bytes
