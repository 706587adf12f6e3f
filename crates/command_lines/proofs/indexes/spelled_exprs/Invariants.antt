use Rattle.std.proofs.Common.{◌≡◌, ◌++◌, codes, take}
use Rattle.std.specs.List.{flat_map}
use Rattle.expr_parser.specs.Canonical.{canonical}
use Rattle.expr_parser.specs.FormOf.{form_of}
use Rattle.command_lines.proofs.indexes.spelled_exprs.Given as goal

abbrev pub invariant-loop-expr : goal.invariant-loop-expr
invariant-loop-expr l = l.text ≡ flat_map (λ e. codes " " ++ canonical (form_of e)) (take l.expr-index l.expr-items)
