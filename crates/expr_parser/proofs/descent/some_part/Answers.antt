-- Where no part begins, nothing is passed.
use Rattle.std.proofs.Common.{◌≡◌, ◌<◌, length, ◌∙◌, arith}
use Rattle.std.proofs.lemmas.Bool.Decides.{nat_tests}
use Rattle.expr_parser.proofs.Steps.{no_part, starts_part}
use Rattle.expr_parser.proofs.descent.some_part.Goals as goal

pub returns-then-is_empty : goal.returns-then-is_empty
returns-then-is_empty c =
    let empty : length c.part-part.result.now ≡ 0 = grind (arith, nat_tests, c.if-is_empty.true, c.is_empty.ensures) in
    let none = no_part c.args.reader.now c.part-part.result.now c.part-part.ensures.value empty in
    (c.part-part.ensures.rest ∙ none.0, none.1)

pub returns : goal.returns
returns c =
    let some : 0 < length c.part-part.result.now = grind (arith, nat_tests, c.if-is_empty.false, c.is_empty.ensures)
    in (
      c.part-part.ensures.value,
      c.part-part.ensures.rest,
      starts_part c.args.reader.now c.part-part.result.now c.part-part.ensures.value some,
      c.part-part.utf8,
    )
