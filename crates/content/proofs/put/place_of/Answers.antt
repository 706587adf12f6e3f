-- A field before the place moves it on by one.
use Rattle.content.specs.inner.Plain.{place_among}
use Rattle.content.specs.TreeOf.{fields_view, pair_of}
use Rattle.content.proofs.PutFields.{none_passed}
use Rattle.std.proofs.Common.{refl}
use Rattle.content.proofs.put.place_of.Goals as goal

pub loop-other-init : goal.loop-other-init
loop-other-init c = record {
  place = refl;
  behind = none_passed (place_among (pair_of c.args.field.now).0 (fields_view c.args.fields.now));
}
