-- Each function passes on where the run is, and each call is of a shorter text.
use Rattle.std.proofs.Common.{ℕ, map, length, Vec, Global, Err, arith, ap, sym, subst, ◌∙◌}
use Rattle.std.proofs.lemmas.Result.{err_from_is_err_and}
use Rattle.expr_parser.specs.declared.expr.Expr.{Expr}
use Rattle.expr_parser.specs.declared.transform.Transform.TheVariants.{Combine, Number}
use Rattle.expr_parser.specs.Forms.{combine, number}
use Rattle.expr_parser.specs.FormOf.{form_of, forms_of_all}
use Rattle.expr_parser.specs.Grammar.{is_white}
use Rattle.expr_parser.specs.Descent.{Fails, Goes}
use Rattle.expr_parser.specs.Machine.{begin, combined, done, ready, run, within}
use Rattle.expr_parser.proofs.Machine.{rest_fails, length-rest_of}
use Rattle.expr_parser.proofs.Steps.{stops_alike, stops_behind, argument_begins, arguments_first, arguments_next}
use Rattle.expr_parser.proofs.Steps.{arguments_end, ready_close, ready_stuck}
use Rattle.expr_parser.proofs.descent.+descent.Goals as goal

pub applied-returns-in_err-width-in-Number-clause-goes :
    goal.applied-returns-in_err-width-in-Number-clause-goes
applied-returns-in_err-width-in-Number-clause-goes t c =
    let r = c.from_residual-in_err-width-in-Number in
    let p = err_from_is_err_and r.result r.ensures.1 in
    rw (p.1, p.2) (subst (λ x. Goes {T = Expr} (λ K. done (within x K) (form_of c.args.first))
    (λ e K. ready K (form_of e)) c.args.reader.now c.width_behind.new.reader (Err c.in_err-width-in-Number.field-0.0))
    (sym c.in-Number.is) (stops_alike {T = ℕ} {U = Expr} (λ K. done (within Number K) (form_of c.args.first))
    (λ n K. ready K (number (form_of c.args.first) n))
    (λ e K. ready K (form_of e)) c.args.reader.now c.width_behind.new.reader c.in_err-width-in-Number.field-0.0
    (c.in_err-width-in-Number.ensures.goes (form_of c.args.first))))

pub applied-arguments-requires : goal.applied-arguments-requires
applied-arguments-requires t c = (omega (arith, c.decreases), c.requires)

pub arguments-loop-alloc-init : goal.arguments-loop-alloc-init
arguments-loop-alloc-init t c =
    arguments_first c.args.reader.now c.args.first c.new-all.result.items c.push.new.self.items c.requires
    c.new-all.ensures.items c.in_ok-push.ensures.items

pub arguments-expression-requires : goal.arguments-expression-requires
arguments-expression-requires t c =
    let comma = c.loop-alloc-test.ensures in
    let shorter = c.loop-alloc.invariant.2 in
    (omega (arith, c.decreases, ap length comma), tt)

pub arguments-returns-in_err-next-clause-goes : goal.arguments-returns-in_err-next-clause-goes
arguments-returns-in_err-next-clause-goes t c =
    let r = c.from_residual-in_err-next in
    let p = err_from_is_err_and r.result r.ensures.1 in
    rw (p.1, p.2) (stops_behind {T = Expr} {U = Vec Expr Global} (λ K. done (within Combine K) (form_of c.args.first))
    (λ K. begin K) (λ K. combined (map form_of c.loop-alloc.all.items) K) (λ e K. done K (form_of e))
    (λ all K. ready K (combine (forms_of_all all.items))) c.args.reader.now c.takes.new.self c.expression.new.reader
    c.in_err-next.field-0.0 (λ K. c.loop-alloc.invariant.0 K
    ∙ argument_begins K (map form_of c.loop-alloc.all.items) c.loop-alloc.reader c.takes.new.self
    c.loop-alloc-test.ensures) c.in_err-next.ensures.goes)

pub arguments-loop-alloc-smaller : goal.arguments-loop-alloc-smaller
arguments-loop-alloc-smaller t c =
    let comma = c.loop-alloc-test.ensures in
    omega (arith, ap length comma, c.in_ok-next.ensures.shorter)

pub arguments-loop-alloc-preserved : goal.arguments-loop-alloc-preserved
arguments-loop-alloc-preserved t c =
    arguments_next c.args.reader.now c.args.first c.in_ok-next.next c.loop-alloc.all.items
    c.push-in-loop-alloc.new.self.items c.loop-alloc.reader c.takes.new.self c.expression.new.reader
    c.loop-alloc.invariant c.loop-alloc-test.ensures c.in_ok-next.ensures.goes c.in_ok-next.ensures.past
    c.in_ok-next.ensures.shorter c.in_ok-push-2.ensures.items

pub arguments-returns-clause-goes : goal.arguments-returns-clause-goes
arguments-returns-clause-goes t c =
    arguments_end c.args.reader.now c.args.first c.loop-alloc.all.items c.loop-alloc.reader c.takes.new.self
    c.loop-alloc.invariant c.loop-alloc-test.ensures

pub arguments-returns-clause-shorter : goal.arguments-returns-clause-shorter
arguments-returns-clause-shorter t c =
    let same = c.loop-alloc-test.ensures in
    omega (arith, ap length same.0, c.loop-alloc.invariant.2)

pub call-expression-requires : goal.call-expression-requires
call-expression-requires t c = (omega (arith, c.decreases), tt)

pub call-applied-requires : goal.call-applied-requires
call-applied-requires t c =
    (omega (arith, c.decreases, c.in_ok-first.ensures.shorter), c.in_ok-first.ensures.past)

pub call-returns-in_err-expr-clause-goes : goal.call-returns-in_err-expr-clause-goes
call-returns-in_err-expr-clause-goes t c =
    let r = c.from_residual-in_err-expr in
    let p = err_from_is_err_and r.result r.ensures.1 in
    rw (p.1, p.2) (stops_behind {T = Expr} {U = Expr} (λ K. begin (within c.args.transform K))
    (λ K. done (within c.args.transform K) (form_of c.in_ok-first.first)) (λ K. K) (λ e K. ready K (form_of e))
    (λ e K. done K (form_of e)) c.args.reader.now c.expression.new.reader c.applied.new.reader c.in_err-expr.field-0.0
    (λ K. c.in_ok-first.ensures.goes (within c.args.transform K)) c.in_err-expr.ensures.goes)

pub call-returns-then-not-takes-clause-goes : goal.call-returns-then-not-takes-clause-goes
call-returns-then-not-takes-clause-goes t c =
    let open_still = c.if-not-takes.ensures in
    λ K. c.in_ok-first.ensures.goes (within c.args.transform K)
    ∙ (c.in_ok-expr.ensures.goes K
    ∙ (ready_stuck K (form_of c.in_ok-expr.expr) c.applied.new.reader open_still.1
    ∙ ap (λ x. Err x) (sym open_still.0)))

pub call-returns-clause-goes : goal.call-returns-clause-goes
call-returns-clause-goes t c =
    λ K. c.in_ok-first.ensures.goes (within c.args.transform K)
    ∙ (c.in_ok-expr.ensures.goes K
    ∙ (ready_close K (form_of c.in_ok-expr.expr) c.applied.new.reader c.takes.new.self c.if-not-takes.ensures
    ∙ ap (run (done K (form_of c.in_ok-expr.expr))) (sym c.pass_white.ensures)))

pub call-returns-clause-past : goal.call-returns-clause-past
call-returns-clause-past t c = subst (Fails is_white) (sym c.pass_white.ensures) (rest_fails is_white c.takes.new.self)

pub call-returns-clause-shorter : goal.call-returns-clause-shorter
call-returns-clause-shorter t c =
    let closed = c.if-not-takes.ensures in
    omega (
      arith,
      length-rest_of is_white c.takes.new.self,
      ap length c.pass_white.ensures,
      ap length closed,
      c.in_ok-expr.ensures.shorter,
      c.in_ok-first.ensures.shorter,
    )

pub expression-call-requires : goal.expression-call-requires
expression-call-requires t c =
    (omega (arith, c.decreases, c.in_ok-words.ensures.shorter, c.in-Some.ensures.shorter), tt)
