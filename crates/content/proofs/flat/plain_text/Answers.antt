-- Plain ASCII before a closing quote is written as it is.
use Rattle.std.proofs.Common.{◌≡◌, get_or, arith}
use Rattle.content.proofs.FlatTexts.{IsUtf8-plain, ascii_front}
use Rattle.content.proofs.flat.plain_text.Goals as goal

pub returns-in-34-clause-text : goal.returns-in-34-clause-text
returns-in-34-clause-text c =
    let bytes = c.args.bytes.now in
    let end = c.plain_end-end.result in
    let close : get_or bytes end 0 ≡ 34 = grind arith in
    ascii_front bytes end (omega arith) c.plain_end-end.ensures.plain close

pub returns-in-34-clause-utf8 : goal.returns-in-34-clause-utf8
returns-in-34-clause-utf8 c =
    IsUtf8-plain c.args.bytes.now c.plain_end-end.result (omega arith) c.plain_end-end.ensures.plain
