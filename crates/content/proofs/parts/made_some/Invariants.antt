-- What follows the fields so far makes an object of them all, of which these are the ones that were asked for.
use Rattle.std.proofs.Common.{ℕ, ◌≤◌, List, length, map, option_map}
use Rattle.content.specs.Parts.{fields_among}
use Rattle.content.specs.inner.Pieces.{SomeBefore}
use Rattle.content.specs.Tree.{Fields}
use Rattle.content.specs.TreeOf.{pair_of}
use Rattle.content.proofs.MadeTrees.{fields_onto}
use Rattle.content.proofs.SpelledTexts.{MoreFields}
use Rattle.content.proofs.parts.made_some.Given as goal

abbrev pub invariant-fields : goal.invariant-fields
invariant-fields l = record {
  so_far : (fs : Fields) (rest : List ℕ) → MoreFields l.levels (option_map (λ s. s.now) l.last) l.left fs rest
      → SomeBefore l.names l.levels l.bytes (fields_onto (map pair_of l.found.items) (fields_among l.names fs)) rest;
  no_longer : length l.left ≤ length l.bytes;
}

abbrev pub decreases-fields : goal.decreases-fields
decreases-fields l = length l.left
