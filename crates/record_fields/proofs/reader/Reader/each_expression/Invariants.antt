use Rattle.std.proofs.Common.{◌≡◌, ◌-◌, length, map}
use Rattle.std.specs.List.{All}
use Rattle.expr_parser.specs.FormOf.{form_of}
use Rattle.expr_parser.specs.Reading.{IsExpr}
use Rattle.record_fields.specs.Fields.{each_read}
use Rattle.record_fields.specs.Plain.{expression}
use Rattle.record_fields.specs.Reading.{texts_of}
use Rattle.record_fields.proofs.Loops.{with_front}
use Rattle.record_fields.proofs.reader.Reader.each_expression.Given as goal

abbrev pub invariant-loop : goal.invariant-loop
invariant-loop l = record {
  so_far : with_front (texts_of l.exprs) (each_read expression (l.count - l.counter) l.self)
      ≡ each_read expression l.count l.fn.self;
  read : All IsExpr (map form_of l.exprs);
  count : length l.exprs ≡ l.counter;
}
