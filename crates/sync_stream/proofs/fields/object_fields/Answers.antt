-- The brace opens an object of the members behind it.
use Rattle.std.proofs.Common.{◌∷◌, ap, ◌∙◌}
use Rattle.json.specs.Reads.{token_of}
use Rattle.sync_stream.proofs.Sayings.{object_said}
use Rattle.sync_stream.proofs.fields.object_fields.Goals as goal

pub returns-in-BeginObject : goal.returns-in-BeginObject
returns-in-BeginObject c =
    let more = c.next.new.self in
    object_said c.args.reader.now more c.member_fields.new.reader c.member_fields.result
    (c.in_ok-next.ensures.value ∙ ap (λ t. token_of t ∷ more) c.in-BeginObject.is) c.member_fields.ensures
