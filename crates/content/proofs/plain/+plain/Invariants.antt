-- What is left to read behind the items or fields so far is what was there, and those that were made keep the limits.
use Rattle.std.proofs.Common.{◌≡◌, ℕ, ◌+◌, ◌*◌, ◌≤◌, List, length, option_map, true, false}
use Rattle.json.specs.Json.{items, value, parse_map}
use Rattle.serde_json.specs.Read.{of_items, converted}
use Rattle.content.specs.Canonical.{fields_data, items_data}
use Rattle.content.specs.Faults.{any_in_items, is_large}
use Rattle.content.specs.Plain.{comes_after, more_levels}
use Rattle.content.specs.Tree.{items_nesting}
use Rattle.content.specs.TreeOf.{fields_view, items_view}
use Rattle.content.proofs.PlainTexts.{ReadsFields, items_before}
use Rattle.content.proofs.PutFields.{AllBefore}
use Rattle.content.proofs.plain.+plain.Given as goal

abbrev pub decreases-plain_value : goal.decreases-plain_value
decreases-plain_value l = 2 * l.levels

abbrev pub decreases-plain_items : goal.decreases-plain_items
decreases-plain_items l = 2 * l.levels + 1

abbrev pub decreases-plain_fields : goal.decreases-plain_fields
decreases-plain_fields l = 2 * l.levels + 1

abbrev pub invariant-plain_items-items : goal.invariant-plain_items-items
invariant-plain_items-items l = record {
  read : (n : ℕ) × (length l.reader ≤ n)
      × (converted of_items (items (value (more_levels l.levels)) (length l.initial.reader) l.initial.reader)
      ≡ parse_map (items_before l.found.items) (converted of_items (items (value (more_levels l.levels)) n l.reader)));
  no_longer : length l.reader ≤ length l.initial.reader;
  shallow : items_nesting (items_view l.found.items) ≤ l.levels;
  small : any_in_items is_large (items_data (items_view l.found.items)) ≡ false;
}

abbrev pub decreases-plain_items-items : goal.decreases-plain_items-items
decreases-plain_items-items l = length l.reader

abbrev pub invariant-plain_fields-fields : goal.invariant-plain_fields-fields
invariant-plain_fields-fields l = record {
  so_far : ReadsFields l.levels l.initial.reader l.reader (fields_view l.found.items);
  ascending : (k : List ℕ) → comes_after (option_map (λ s. s.now) l.last) k ≡ true
      → AllBefore k (fields_data (fields_view l.found.items));
}

abbrev pub decreases-plain_fields-fields : goal.decreases-plain_fields-fields
decreases-plain_fields-fields l = length l.reader
