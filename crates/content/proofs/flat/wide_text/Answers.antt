-- What stands before a closing quote is written as it is.
use Rattle.std.proofs.Common.{◌≡◌, Some, get_or, arith}
use Rattle.std.specs.Prelude.{position}
use Rattle.std.proofs.lemmas.List.Quantifiers.{position-Some}
use Rattle.json.specs.Run.{is_stop}
use Rattle.content.proofs.FlatTexts.{plain_front}
use Rattle.content.proofs.flat.wide_text.Goals as goal

pub returns-in-Ok-clause-text : goal.returns-in-Ok-clause-text
returns-in-Ok-clause-text c =
    let bytes = c.args.bytes.now in
    let end = c.in_ok-end.end in
    let at : position is_stop bytes ≡ Some end = grind arith in
    let close : get_or bytes end 0 ≡ 34 = grind arith in
    let found = position-Some is_stop bytes end 0 at in
    plain_front bytes end found.0 found.2 close
