-- The brace opens an object of the fields behind it, which is a root without a fault.
use Rattle.std.proofs.Common.{◌≡◌, ◌∷◌, Some, refl, sym, ap, ◌∙◌, arith, rules}
use Rattle.json.specs.Token.{Token}
use Rattle.json.specs.Json.{value}
use Rattle.json.specs.Reads.{token_of}
use Rattle.serde_json.specs.Data.{object}
use Rattle.serde_json.specs.Read.{converted, of_json}
use Rattle.content.specs.Canonical.{data_of, fields_data}
use Rattle.content.specs.Faults.{fault_of_value}
use Rattle.content.specs.Tree as tree
use Rattle.content.specs.TreeOf.{fields_view, tree_of}
use Rattle.content.specs.declared.value.Json.{Object, the_lemmas}
use Rattle.content.proofs.CanonicalTexts.{sound_root}
use Rattle.content.proofs.PlainTexts.{object_read}
use Rattle.content.proofs.plain.plain_object.Goals as goal

pub returns-in_ok-plain_fields-in-BeginObject-clause-value : goal.returns-in_ok-plain_fields-in-BeginObject-clause-value
returns-in_ok-plain_fields-in-BeginObject-clause-value c =
    let ts = c.next.new.self in
    let first : c.args.reader.now ≡ token_of c.in_ok-token.token ∷ ts = grind arith in
    let is : c.args.reader.now ≡ Token.begin_object ∷ ts = first ∙ ap (λ k. token_of k ∷ ts) c.in-BeginObject.is in
    let v = c.in_ok-plain_fields-in-BeginObject.field-0 in
    let seen : data_of (tree_of (Object v)) ≡ object (fields_data (fields_view v.items)) = search (rules, the_lemmas) in
    ap (λ all. converted of_json (value 127 all)) is
    ∙ object_read 64 ts c.plain_fields.new.reader (fields_data (fields_view v.items)) (omega arith)
    c.in_ok-plain_fields-in-BeginObject.ensures.value
    ∙ ap (λ d. Some (d, c.plain_fields.new.reader)) (sym seen)

pub returns-in_ok-plain_fields-in-BeginObject-clause-no_fault :
    goal.returns-in_ok-plain_fields-in-BeginObject-clause-no_fault
returns-in_ok-plain_fields-in-BeginObject-clause-no_fault c =
    let made = c.in_ok-plain_fields-in-BeginObject in
    let v = made.field-0 in
    let seen : tree_of (Object v) ≡ tree.object (fields_view v.items) = search (rules, the_lemmas) in
    ap (λ t. fault_of_value (data_of t)) seen
    ∙ sound_root (tree.object (fields_view v.items)) refl (omega (arith, made.ensures.shallow)) made.ensures.small
