-- The object is the whole text.
use Rattle.std.proofs.Common.{◌≡◌, ◌≤◌, [], length, Some, sym, ap, ◌∙◌, arith, rules}
use Rattle.json.specs.Lex.{tokens}
use Rattle.json.specs.Json.{value}
use Rattle.serde_json.specs.Read.{converted, of_json}
use Rattle.content.specs.Canonical.{data_of}
use Rattle.content.specs.Contents.{most_bytes}
use Rattle.content.specs.TreeOf.{tree_of}
use Rattle.content.proofs.CanonicalTexts.{Reads-value}
use Rattle.content.proofs.PlainTexts.{value_of_read}
use Rattle.content.proofs.plain.plain_root.Goals as goal

pub returns : goal.returns
returns c =
    let bytes = c.args.bytes.now in
    let d = data_of (tree_of c.in_ok-root.root) in
    let short : length bytes ≤ most_bytes = omega arith in
    let none : c.plain_object.new.reader ≡ [] = search rules in
    let whole : converted of_json (value 127 (tokens bytes)) ≡ Some (d, []) =
    ap (λ text. converted of_json (value 127 (tokens text))) (sym c.in-Ok.ensures.cases.0)
    ∙ ap (λ ts. converted of_json (value 127 ts)) (sym c.in-Ok-new.ensures.ok) ∙ c.in_ok-root.ensures.value
    ∙ ap (λ ts. Some (d, ts)) none in
    Reads-value bytes (tree_of c.in_ok-root.root) short (value_of_read bytes d c.in-Ok.ensures.cases.1 whole)
    c.in_ok-root.ensures.no_fault
