-- Lists of two lengths differ, and equal ones are compared item by item.
use Rattle.std.proofs.Common.{sym, ◌∙◌}
use Rattle.expr_parser.proofs.SameForms.{other_length}
use Rattle.expr_parser.proofs.same.+sameness.Goals as goal

pub same_all-returns-then-len : goal.same_all-returns-then-len
same_all-returns-then-len t c =
    sym (other_length c.args.xs.now.items c.args.ys.now.items
    (λ e. c.if-len.true (c.len.ensures ∙ (c.args.xs.now.ok.0 ∙ (e ∙ (sym c.args.ys.now.ok.0 ∙ sym c.len-2.ensures))))))
