-- The object is the whole text.
use Rattle.std.proofs.Common.{◌≡◌, [], Some, option_map, sym, ap, ◌∙◌, rules}
use Rattle.json.specs.Lex.{tokens}
use Rattle.json.specs.Json.{value}
use Rattle.serde_json.specs.Data.{object}
use Rattle.serde_json.specs.Read.{converted, of_json, read}
use Rattle.content.specs.Faults.{value_of}
use Rattle.sync_stream.specs.inner.Fields.{sayings_of}
use Rattle.sync_stream.proofs.Sayings.{text_read, valid_read}
use Rattle.sync_stream.proofs.fields.plain_fields.Goals as goal

pub returns : goal.returns
returns c =
    let text = c.in-Ok.text.now in
    let found = c.in-Some.ensures in
    let none : c.object_fields.new.reader ≡ [] = search rules in
    let whole : converted of_json (value 127 (tokens text)) ≡ Some (object found.0, []) =
    ap (λ ts. converted of_json (value 127 ts)) (sym c.in-Ok-new.ensures.ok) ∙ found.1
    ∙ ap (λ ts. Some (object found.0, ts)) none in
    let valid : value_of c.args.bytes.now ≡ read text = valid_read c.args.bytes.now c.in-Ok.ensures.cases.1
    ∙ ap read (sym c.in-Ok.ensures.cases.0) in
    ap (option_map sayings_of) (valid ∙ text_read text (object found.0) whole) ∙ ap Some (sym found.2)
