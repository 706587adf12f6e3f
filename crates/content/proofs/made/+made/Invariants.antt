-- What follows the items or fields so far makes a list or an object of them all.
use Rattle.std.proofs.Common.{ℕ, ◌+◌, ◌*◌, ◌≤◌, List, length, map, option_map}
use Rattle.content.specs.inner.Fronts.{FieldsBefore, ItemsBefore}
use Rattle.content.specs.Tree.{Fields, Items}
use Rattle.content.specs.TreeOf.{pair_of, tree_of}
use Rattle.content.proofs.MadeTrees.{fields_onto, items_onto}
use Rattle.content.proofs.SpelledTexts.{MoreFields, MoreItems}
use Rattle.content.proofs.made.+made.Given as goal

abbrev pub decreases-made_value : goal.decreases-made_value
decreases-made_value l = 2 * l.levels

abbrev pub decreases-made_items : goal.decreases-made_items
decreases-made_items l = 2 * l.levels + 1

abbrev pub decreases-made_fields : goal.decreases-made_fields
decreases-made_fields l = 2 * l.levels + 1

abbrev pub invariant-made_items-items : goal.invariant-made_items-items
invariant-made_items-items l = record {
  so_far : (ts : Items) (rest : List ℕ) → MoreItems l.levels l.left ts rest
      → ItemsBefore l.levels l.bytes (items_onto (map tree_of l.found.items) ts) rest;
  no_longer : length l.left ≤ length l.bytes;
}

abbrev pub decreases-made_items-items : goal.decreases-made_items-items
decreases-made_items-items l = length l.left

abbrev pub invariant-made_fields-fields : goal.invariant-made_fields-fields
invariant-made_fields-fields l = record {
  so_far : (fs : Fields) (rest : List ℕ) → MoreFields l.levels (option_map (λ s. s.now) l.last) l.left fs rest
      → FieldsBefore l.levels l.bytes (fields_onto (map pair_of l.found.items) fs) rest;
  no_longer : length l.left ≤ length l.bytes;
}

abbrev pub decreases-made_fields-fields : goal.decreases-made_fields-fields
decreases-made_fields-fields l = length l.left
