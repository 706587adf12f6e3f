-- None at first, one more, the first that is refused, and all of them.
use Rattle.std.proofs.Common.{◌≡◌, Some, ◌∙◌, map, subst}
use Rattle.std.proofs.lemmas.Result.{err_from_is_err_and}
use Rattle.conflicts.specs.State.{Text}
use Rattle.expr_parser.specs.FormOf.{form_of}
use Rattle.expr_parser.specs.Reading.{expr_in}
use Rattle.store_commands.proofs.ReadExprs.{all_read, map-behind, next_read, none_read, place_is, refused_so}
use Rattle.store_commands.proofs.index_create.exprs_in.Goals as goal

pub loop-text-init : goal.loop-text-init
loop-text-init c = rw c.new-exprs.ensures (none_read c.args.texts.now)

pub loop-text-preserved : goal.loop-text-preserved
loop-text-preserved c =
    let l = c.loop-text in
    rw (c.in_ok-push.ensures.ok, map-behind form_of l.exprs c.in_ok-expr.expr)
    (next_read c.args.texts.now l.text-index c.text-item.result c.loop-text-test.true (map form_of l.exprs) l.invariant
    (form_of c.in_ok-expr.expr)
    (subst (λ (t : Text). expr_in t ≡ Some (form_of c.in_ok-expr.expr)) c.text-item.is c.in_ok-expr.ensures.reads)
    c.in_ok-expr.ensures.expr)

pub returns-in_err-expr : goal.returns-in_err-expr
returns-in_err-expr c =
    let l = c.loop-text in
    let p = err_from_is_err_and c.from_residual.result c.from_residual.ensures.1 in
    rw (p.1, p.2)
    (record {
      all = tt;
      first = refused_so c.args.texts.now l.text-index c.text-item.result c.loop-text-test.true
          (map form_of l.exprs) l.invariant c.len.result c.text-item.result
          (c.len.ensures ∙ place_is form_of c.args.texts.now l.text-index l.exprs c.loop-text-test.true l.invariant)
          c.text-item.is _ c.in_err-expr.ensures.refused;
    })

pub returns : goal.returns
returns c =
    let l = c.loop-text in
    record {
      all = all_read c.args.texts.now l.text-index (map form_of l.exprs) c.loop-text-test.false l.invariant;
      first = tt;
    }
