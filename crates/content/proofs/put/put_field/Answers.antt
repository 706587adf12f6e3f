-- The field goes to its place.
use Rattle.std.proofs.Common.{◌≡◌, Some, sym, ap, ◌∙◌, arith}
use Rattle.content.specs.Canonical.{fields_data}
use Rattle.content.specs.inner.Plain.{place_among}
use Rattle.content.specs.TreeOf.{fields_view, pair_of}
use Rattle.content.proofs.PutFields.{put_at}
use Rattle.content.proofs.put.put_field.Goals as goal

pub returns : goal.returns
returns c =
    let f = c.args.field in
    let fs = c.args.fields.now.items in
    let place : place_among (pair_of f).0 (fields_view fs) ≡ Some c.in_ok-place.place = grind arith in
    ap (λ gs. fields_data (fields_view gs)) c.in_ok-insert.ensures.items ∙ sym (put_at f fs c.in_ok-place.place place)
