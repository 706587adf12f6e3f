-- A numeral is ASCII, so it is a text that `parse` reads.
use Rattle.std.proofs.Common.{sym, subst, arith}
use Rattle.std.specs.Str.Parse.{ParsesUnsigned}
use Rattle.sync_http.proofs.Numerals.{numerals_are_text, the_number, a_great_number, refused_number}
use Rattle.sync_http.proofs.fields.number_of.Goals as goal

pub returns-in_default : goal.returns-in_default
returns-in_default c = absurd
    (c.in_default.ensures.cases.0 (numerals_are_text c.args.text.now (sym c.if-not-is_numeral.ensures)))

pub returns-then-number-le-GREATEST_COUNT : goal.returns-then-number-le-GREATEST_COUNT
returns-then-number-le-GREATEST_COUNT c =
    sym (the_number c.args.text.now c.parse.result c.in-Ok-parse.number c.in-Ok-parse.is
    (sym c.if-not-is_numeral.ensures)
    (subst (λ t. ParsesUnsigned 64 10 t c.parse.result) c.in-Ok.ensures.cases.0 c.parse.ensures.value.0)
    (omega (arith, c.if-number-le-GREATEST_COUNT.true)))

pub returns-else-number-le-GREATEST_COUNT : goal.returns-else-number-le-GREATEST_COUNT
returns-else-number-le-GREATEST_COUNT c =
    sym (a_great_number c.args.text.now c.parse.result c.in-Ok-parse.number c.in-Ok-parse.is
    (sym c.if-not-is_numeral.ensures)
    (subst (λ t. ParsesUnsigned 64 10 t c.parse.result) c.in-Ok.ensures.cases.0 c.parse.ensures.value.0)
    (omega (arith, c.if-number-le-GREATEST_COUNT.false)))

pub returns-in-Err : goal.returns-in-Err
returns-in-Err c =
    sym (refused_number c.args.text.now c.parse.result c.in-Err.field-0 c.in-Err.is (sym c.if-not-is_numeral.ensures)
    (subst (λ t. ParsesUnsigned 64 10 t c.parse.result) c.in-Ok.ensures.cases.0 c.parse.ensures.value.0))
