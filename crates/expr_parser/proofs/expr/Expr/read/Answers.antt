-- What the descent gives is what the grammar gives, and where it stops is the place.
use Rattle.std.proofs.Common.{◌≡◌, ◌-◌, chars, length, Ok, arith, ap, sym, subst, ◌∙◌}
use Rattle.std.proofs.lemmas.Str.{encodes-chars}
use Rattle.expr_parser.specs.FormOf.{form_of}
use Rattle.expr_parser.specs.Faults.{IsWrongAt}
use Rattle.expr_parser.specs.Machine.{begin, none, run}
use Rattle.expr_parser.proofs.ReadBack.{expr_in-text, expr_in-None, IsExpr-read}
use Rattle.expr_parser.proofs.Place.{rest_bytes, spells_only, wrong_at}
use Rattle.expr_parser.proofs.expr.Expr.read.Goals as goal

pub overflow_sub-result : goal.overflow_sub-result
overflow_sub-result c =
    let stop = rw c.in-Err-Here.field-0-is at c.in-Err-Here.ensures in
    omega (
      arith,
      c.left.ensures,
      rest_bytes (chars c.args.text.now) c.whole.new.reader
          (ap (run (begin none)) (sym c.new-reader.ensures) ∙ stop),
      ap length
          (encodes-chars c.args.text.now c.utf8.text),
    )

pub returns-then-is_too_long-clause-refused : goal.returns-then-is_too_long-clause-refused
returns-then-is_too_long-clause-refused c =
    λ other. expr_in-None c.args.text.now (λ f is. absurd (omega (arith, is.short, c.if-is_too_long.ensures)))

reads : goal.returns-in-Ok-clause-reads
reads c =
    let text = c.args.text.now in
    let f = form_of c.in-Ok.expr in
    let parsed : run (begin none) (chars text) ≡ Ok f = ap (run (begin none)) (sym c.new-reader.ensures)
    ∙ c.in-Ok.ensures in
    (expr_in-text f text).1
    (record {
      utf8 = c.utf8.text;
      short = c.if-is_too_long.ensures;
      spells =
          (spells_only (chars text) f parsed).spells;
    })

pub returns-in-Ok-clause-reads : goal.returns-in-Ok-clause-reads
returns-in-Ok-clause-reads c = reads c

pub returns-in-Ok-clause-expr : goal.returns-in-Ok-clause-expr
returns-in-Ok-clause-expr c = IsExpr-read (form_of c.in-Ok.expr) c.args.text.now (reads c)

pub returns-in-Ok-clause-grammar : goal.returns-in-Ok-clause-grammar
returns-in-Ok-clause-grammar c = (
  c.if-is_too_long.ensures,
  spells_only (chars c.args.text.now) (form_of c.in-Ok.expr)
      (ap (run (begin none)) (sym c.new-reader.ensures) ∙ c.in-Ok.ensures),
)

pub returns-in-Err-Here-clause-refused : goal.returns-in-Err-Here-clause-refused
returns-in-Err-Here-clause-refused c =
    let text = c.args.text.now in
    let stop = rw c.in-Err-Here.field-0-is at c.in-Err-Here.ensures in
    let wrong = wrong_at text c.whole.new.reader c.utf8.text c.if-is_too_long.ensures
    (ap (run (begin none)) (sym c.new-reader.ensures) ∙ stop) in
    λ other. expr_in-None text (λ f is. wrong.spells_nothing f is.spells)

pub returns-in-Err-Here-clause-grammar : goal.returns-in-Err-Here-clause-grammar
returns-in-Err-Here-clause-grammar c =
    let text = c.args.text.now in
    let stop = rw c.in-Err-Here.field-0-is at c.in-Err-Here.ensures in
    subst (λ n. IsWrongAt (length text - n) text) (sym c.left.ensures)
    (wrong_at text c.whole.new.reader c.utf8.text c.if-is_too_long.ensures
    (ap (run (begin none)) (sym c.new-reader.ensures) ∙ stop))
