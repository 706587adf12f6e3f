-- Digits that lead with no zero are those of a number above zero.
use Rattle.std.proofs.Common.{◌<◌, get_or, arith}
use Rattle.std.proofs.lemmas.Option.{IfSome_then}
use Rattle.content.proofs.FlatTexts.{above_zero}
use Rattle.content.proofs.flat.behind_negative.Goals as goal

pub returns-in-49-to-57-clause-number : goal.returns-in-49-to-57-clause-number
returns-in-49-to-57-clause-number c =
    let bytes = c.args.bytes.now in
    let led : 48 < get_or bytes 0 0 = omega arith in
    IfSome_then c.behind_number.result c.behind_number.ensures.number
    (λ rest n. (n.0, above_zero bytes rest.now n.0 led n.2, n.1, n.2))
