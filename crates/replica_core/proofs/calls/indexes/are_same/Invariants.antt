-- From the place on the expressions are the same exactly where all are.
use Rattle.std.proofs.Common.{◌≡◌, ◌↔◌, drop, map}
use Rattle.expr_parser.specs.FormOf.{form_of}
use Rattle.replica_core.proofs.calls.indexes.are_same.Given as goal

abbrev pub invariant-loop-place : goal.invariant-loop-place
invariant-loop-place l = (map form_of (drop l.place l.kept) ≡ map form_of (drop l.place l.exprs))
    ↔ (map form_of l.kept ≡ map form_of l.exprs)
