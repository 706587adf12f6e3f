-- What is left is the bytes of its characters.
use Rattle.std.proofs.Common.{length, encode_utf8_all, chars, ap, sym, ◌∙◌}
use Rattle.std.proofs.lemmas.Str.{encodes-chars}
use Rattle.expr_parser.proofs.reader.Reader.left.Goals as goal

pub returns : goal.returns
returns c =
    ap length (sym (encodes-chars c.as_bytes.result.now c.as_bytes.ensures.utf8)
    ∙ (ap (λ x. encode_utf8_all (chars x)) c.as_bytes.ensures.value ∙ ap encode_utf8_all c.self.view_is))
