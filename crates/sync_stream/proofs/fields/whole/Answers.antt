-- The text has no sign, so it is read as a number without one.
use Rattle.std.proofs.Common.{◌≡◌, false, Some, IfSome, get_or, ◌==◌, sym, ap, ◌∙◌, subst}
use Rattle.fast_float.specs.Text.{scan}
use Rattle.serde_json.specs.Data.{unsigned}
use Rattle.serde_json.specs.Read.{number_of, number_from}
use Rattle.sync_stream.proofs.fields.whole.Goals as goal

pub returns : goal.returns
unfolding number_of
returns c =
    let s = c.as_bytes-bytes.result.now in
    let plain : (get_or s 0 0 == 45) ≡ false = sym c.if-has_minus.ensures in
    let read : number_from false (scan s) ≡ number_of s = rw plain in
    subst (λ o. IfSome c.unsigned.result (λ n. o ≡ Some (unsigned n)))
    (ap (number_from false) c.scan.ensures.parts ∙ read
    ∙ ap number_of c.as_bytes-bytes.ensures.value) c.unsigned.ensures
