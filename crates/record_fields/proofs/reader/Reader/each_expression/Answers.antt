use Rattle.std.proofs.Common.{◌≡◌, ◌-◌, ◌+◌, subst, sym, ap, arith, length, length-append, map, [], ◌∷◌}
use Rattle.std.specs.List.{All}
use Rattle.std.proofs.lemmas.Result.{err_from_is_err_and}
use Rattle.expr_parser.specs.FormOf.{form_of}
use Rattle.expr_parser.specs.Reading.{IsExpr}
use Rattle.record_fields.specs.Fields.{each_read}
use Rattle.record_fields.specs.Plain.{expression}
use Rattle.record_fields.specs.Reading.{texts_of}
use Rattle.record_fields.specs.inner.Reading.{text_of}
use Rattle.record_fields.proofs.Loops.{with_front, goes_on, ends, is_done, texts_push, exprs_push}
use Rattle.record_fields.proofs.reader.Reader.each_expression.Goals as goal

pub returns-in_err-expr-clause-reads : goal.returns-in_err-expr-clause-reads
returns-in_err-expr-clause-reads c =
    let p = err_from_is_err_and c.from_residual.result c.from_residual.ensures.1 in
    rw (p.1, p.2) (ends expression c.in_err-expr.field-0.0
    (texts_of c.loop.exprs) c.args.count c.loop.counter c.loop.self
    (each_read expression c.args.count c.args.self.now) c.loop-test.true c.in_err-expr.ensures.reads
    c.loop.invariant.so_far)

pub loop-preserved : goal.loop-preserved
loop-preserved c =
    let e = c.in_ok-expr.expr in
    let pushed = sym c.in_ok-push.ensures.ok in
    record {
      so_far =
          subst (λ es. with_front (texts_of es)
          (each_read expression (c.args.count - (c.loop.counter + 1)) c.expression.new.self)
          ≡ each_read expression c.args.count c.args.self.now) pushed
          (rw (texts_push c.loop.exprs e)
          (goes_on expression (texts_of c.loop.exprs) c.args.count c.loop.counter c.loop.self
          (text_of e) c.expression.new.self
          (each_read expression c.args.count c.args.self.now) c.loop-test.true c.in_ok-expr.ensures.reads
          c.loop.invariant.so_far));
      read = subst (λ es. All IsExpr (map form_of es)) pushed
          (exprs_push c.loop.exprs e c.loop.invariant.read c.in_ok-expr.ensures.read);
      count = omega (
        arith,
        ap length c.in_ok-push.ensures.ok,
        length-append c.loop.exprs (e ∷ []),
        c.loop.invariant.count,
      );
    }

pub returns-clause-reads : goal.returns-clause-reads
returns-clause-reads c =
    is_done expression (texts_of c.loop.exprs) c.args.count c.loop.counter c.loop.self
    (each_read expression c.args.count c.args.self.now) c.loop-test.false c.loop.invariant.so_far
