-- Each name so far stands before the field's.
use Rattle.std.proofs.Common.{◌≡◌, ◌+◌, drop, option_map}
use Rattle.content.specs.inner.Plain.{place_among}
use Rattle.content.specs.TreeOf.{fields_view, pair_of}
use Rattle.content.proofs.put.place_of.Given as goal

abbrev pub invariant-loop-other : goal.invariant-loop-other
invariant-loop-other l = record {
  place : l.place ≡ l.other-index;
  behind : place_among (pair_of l.field).0 (fields_view l.fields)
      ≡ option_map (λ p. l.place + p) (place_among (pair_of l.field).0 (fields_view (drop l.other-index l.fields)));
}
