-- The first ones were read.
use Rattle.std.proofs.Common.{map, take}
use Rattle.expr_parser.specs.FormOf.{form_of}
use Rattle.store_commands.specs.inner.Expressions.{AreRead}
use Rattle.store_commands.proofs.index_create.exprs_in.Given as goal

abbrev pub invariant-loop-text : goal.invariant-loop-text
invariant-loop-text l = AreRead (take l.text-index l.texts) (map form_of l.exprs)
