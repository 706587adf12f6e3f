use Rattle.std.proofs.Common.{◌≡◌, ◌+◌, ◌*◌, ◌≤◌, ◌++◌, map, reverse, false, vec_len}
use Rattle.serde_json.specs.Data.{depth, items_depth, members_depth}
use Rattle.serde_json.specs.Find.{is_float}
use Rattle.serde_json.specs.View.{view, items_view, members_view}
use Rattle.content.specs.Canonical.{data_of}
use Rattle.content.specs.Faults.{any_in_items, any_in_members, is_large}
use Rattle.content.specs.TreeOf.{tree_of, pair_of}
use Rattle.content.proofs.Converted.{pair_data, entry_data}
use Rattle.content.proofs.convert.+convert.Given as goal

-- each call is of a value that is less deep, or is nearer to one
abbrev pub decreases-convert : goal.decreases-convert
decreases-convert l = 3 * depth (view l.value)

abbrev pub decreases-convert_items : goal.decreases-convert_items
decreases-convert_items l = 3 * items_depth (items_view l.items.items) + 2

abbrev pub decreases-convert_members : goal.decreases-convert_members
decreases-convert_members l = 3 * members_depth (members_view l.members.entries) + 2

abbrev pub decreases-convert_member : goal.decreases-convert_member
decreases-convert_member l = 3 * depth (view l.member) + 1

abbrev pub decreases-convert_items-loop-item : goal.decreases-convert_items-loop-item
decreases-convert_items-loop-item l = vec_len l.left

abbrev pub invariant-convert_items-loop-item : goal.invariant-convert_items-loop-item
invariant-convert_items-loop-item l = record {
  no_deeper : items_depth (items_view l.left.items) ≤ items_depth (items_view l.fn.items.items);
  all : map view l.left.items ++ map data_of (map tree_of (reverse l.found.items)) ≡ map view l.fn.items.items;
  no_float : any_in_items is_float (items_view l.left.items) ≡ false;
  no_large : any_in_items is_large (items_view l.left.items) ≡ false;
}

abbrev pub invariant-convert_members-loop-name : goal.invariant-convert_members-loop-name
invariant-convert_members-loop-name l = record {
  no_deeper : members_depth (members_view l.name-iterator) ≤ members_depth (members_view l.fn.members.entries);
  whole : l.yielded ++ l.name-iterator ≡ l.fn.members.entries;
  found : map pair_data (map pair_of l.found.items) ≡ map entry_data l.yielded;
  no_float : any_in_members is_float (members_view l.name-iterator) ≡ false;
  no_large : any_in_members is_large (members_view l.name-iterator) ≡ false;
}
