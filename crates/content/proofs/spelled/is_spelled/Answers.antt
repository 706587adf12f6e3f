-- An object behind which nothing stands is the whole text.
use Rattle.std.proofs.Common.{◌≡◌, length, get_or, arith}
use Rattle.content.proofs.FlatTexts.{behind_first}
use Rattle.content.proofs.SpelledTexts.{object_spelled}
use Rattle.content.proofs.spelled.is_spelled.Goals as goal

pub returns-in-Some : goal.returns-in-Some
returns-in-Some c = λ all.
    let text = c.args.bytes.now in
    let rest = c.in-Some.rest.now in
    let first : get_or text 0 0 ≡ 123 = grind arith in
    let none : length rest ≡ 0 = grind arith in
    object_spelled text _ rest (behind_first text 123 (omega arith) first) (omega arith) c.in-Some.ensures.fields none
