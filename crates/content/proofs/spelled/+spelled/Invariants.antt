-- What follows the items or fields so far makes a list or an object of them all.
use Rattle.std.proofs.Common.{ℕ, ◌+◌, ◌*◌, ◌≤◌, List, length, option_map}
use Rattle.content.specs.inner.Fronts.{AreFieldsBefore, AreItemsBefore}
use Rattle.content.specs.Tree.{Fields, Items}
use Rattle.content.proofs.SpelledTexts.{MoreFields, MoreItems}
use Rattle.content.proofs.spelled.+spelled.Given as goal

abbrev pub decreases-behind_value : goal.decreases-behind_value
decreases-behind_value l = 2 * l.levels

abbrev pub decreases-behind_items : goal.decreases-behind_items
decreases-behind_items l = 2 * l.levels + 1

abbrev pub decreases-behind_fields : goal.decreases-behind_fields
decreases-behind_fields l = 2 * l.levels + 1

abbrev pub invariant-behind_items-items : goal.invariant-behind_items-items
invariant-behind_items-items l = record {
  so_far : (ts : Items) (rest : List ℕ) → MoreItems l.levels l.left ts rest → AreItemsBefore l.levels l.bytes rest;
  no_longer : length l.left ≤ length l.bytes;
}

abbrev pub decreases-behind_items-items : goal.decreases-behind_items-items
decreases-behind_items-items l = length l.left

abbrev pub invariant-behind_fields-fields : goal.invariant-behind_fields-fields
invariant-behind_fields-fields l = record {
  so_far : (fs : Fields) (rest : List ℕ) → MoreFields l.levels (option_map (λ s. s.now) l.last) l.left fs rest
      → AreFieldsBefore l.levels l.bytes rest;
  no_longer : length l.left ≤ length l.bytes;
}

abbrev pub decreases-behind_fields-fields : goal.decreases-behind_fields-fields
decreases-behind_fields-fields l = length l.left
