-- A number is written as it stands before the rest.
use Rattle.std.proofs.Common.{arith}
use Rattle.content.proofs.FlatTexts.{behind_first, negative_before, number_before}
use Rattle.content.proofs.made.made_flat.Goals as goal

pub made_number-requires : goal.made_number-requires
made_number-requires c =
    let bytes = c.args.bytes.now in
    let number = c.in-Some.ensures.number in
    negative_before bytes _ c.in-Some.rest.now number.0 (behind_first bytes 45 (omega arith) (grind arith)) number.1
    number.2 number.3

pub made_number-requires-in-Some-behind_number : goal.made_number-requires-in-Some-behind_number
made_number-requires-in-Some-behind_number c =
    let number = c.in-Some-behind_number.ensures.number in
    number_before c.args.bytes.now c.in-Some-behind_number.rest.now number.0 number.1 number.2
