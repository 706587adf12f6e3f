-- The digits at the front, if they are not too many and lead with no zero, are those of a number.
use Rattle.std.proofs.Common.{◌≡◌, ◌<◌, ◌≤◌, Some, get_or, not, arith}
use Rattle.std.specs.Prelude.{position}
use Rattle.std.specs.Char.{is_ascii_digit}
use Rattle.content.proofs.FlatTexts.{number_front}
use Rattle.content.proofs.flat.behind_number.Goals as goal
use Rattle.content.proofs.flat.behind_number.Goals.{then-bytes-eq48, else-bytes-eq48}

pub returns-clause-number : goal.returns-clause-number
returns-clause-number c =
    let bytes = c.args.bytes.now in
    let end = c.in_ok-end.end in
    let found : position (λ b. not (is_ascii_digit b)) bytes ≡ Some end = grind arith in
    let some : 0 < end = grind arith in
    let few : end ≤ 18 = grind arith in
    let led : get_or bytes 0 0 ≡ 48 → end ≡ 1 = λ zero. elim c.if-bytes-eq48.branch [
      | then-bytes-eq48 w ↦ grind (arith, zero, some)
      | else-bytes-eq48 w ↦ grind (arith, zero, some)
    ] in
    number_front bytes end found some few led
