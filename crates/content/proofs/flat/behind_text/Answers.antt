-- A text is a value.
use Rattle.content.proofs.FlatTexts.{text_value}
use Rattle.content.proofs.flat.behind_text.Goals as goal

pub returns-clause-value : goal.returns-clause-value
returns-clause-value c =
    let found = c.in_ok-rest.ensures in
    text_value c.args.bytes.now c.in_ok-rest.field-0-0.now c.in_ok-rest.rest.now found.text found.utf8
