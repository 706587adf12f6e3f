use Rattle.std.proofs.Common.{arith, ◌≡◌, [], ◌++◌, map, reverse, sym, ap, ◌∙◌, append-nil}
use Rattle.std.proofs.lemmas.List.{nil_from_length}
use Rattle.serde_json.specs.Data.{items_depth}
use Rattle.serde_json.specs.Find.{is_float}
use Rattle.serde_json.specs.View.{view, items_view}
use Rattle.content.specs.Canonical.{data_of}
use Rattle.content.specs.Faults.{any_in_items, is_large}
use Rattle.content.specs.TreeOf.{tree_of, pair_of}
use Rattle.content.proofs.Converted.{entry_data, members_of_pairs, fields_data-fields_of, members_of_pairs-entry_data}
use Rattle.content.proofs.Converted.{any_before_last, depth_of_last, all_with_last, all_made}
use Rattle.content.proofs.convert.+convert.Goals as goal

pub convert_items-convert-requires : goal.convert_items-convert-requires
convert_items-convert-requires t c =
    let l = c.loop-item in (
      omega (
        arith,
        l.invariant.no_deeper,
        ap
            (λ vs. items_depth (items_view vs)) c.in-Some.ensures.items,
        depth_of_last c.pop.new.self.items
            c.in-Some.item,
      ),
      (
        (any_before_last is_float c.pop.new.self.items c.in-Some.item
            (rw c.in-Some.ensures.items at l.invariant.no_float)).1,
        (any_before_last is_large c.pop.new.self.items c.in-Some.item
            (rw c.in-Some.ensures.items at l.invariant.no_large)).1,
      ),
    )

pub convert_items-loop-item-preserved : goal.convert_items-loop-item-preserved
convert_items-loop-item-preserved t c =
    let l = c.loop-item in
    let rest = c.pop.new.self.items in
    let given_back = c.give_back_spare.ensures.items in record {
      no_deeper = omega (
        arith,
        l.invariant.no_deeper,
        ap (λ vs. items_depth (items_view vs)) given_back,
        ap
            (λ vs. items_depth (items_view vs)) c.in-Some.ensures.items,
        depth_of_last rest c.in-Some.item,
      );
      all = ap (λ vs. map view vs ++ map data_of (map tree_of (reverse c.push.new.self.items))) given_back
          ∙ all_with_last rest c.in-Some.item l.left.items l.found.items c.in_ok-convert.field-0 c.push.new.self.items
          _ c.in-Some.ensures.items c.in_ok-push.ensures.items c.in_ok-convert.ensures l.invariant.all;
      no_float = ap (λ vs. any_in_items is_float (items_view vs)) given_back
          ∙ (any_before_last is_float rest c.in-Some.item (rw c.in-Some.ensures.items at l.invariant.no_float)).0;
      no_large = ap (λ vs. any_in_items is_large (items_view vs)) given_back
          ∙ (any_before_last is_large rest c.in-Some.item (rw c.in-Some.ensures.items at l.invariant.no_large)).0;
    }

pub convert_items-returns : goal.convert_items-returns
convert_items-returns t c =
    let l = c.loop-item in
    all_made c.args.items.items l.left.items l.found.items c.reverse.new.self.items
    (nil_from_length l.left.items (omega (arith, l.left.ok.0, c.in_default.ensures.cases))) c.reverse.ensures.items
    l.invariant.all

pub convert_members-returns : goal.convert_members-returns
convert_members-returns t c =
    let l = c.loop-name in
    let empty : l.name-iterator ≡ [] = c.in-None.ensures.steps.0 in
    let all : l.yielded ≡ c.args.members.entries = sym (append-nil l.yielded) ∙ rw empty at l.invariant.whole in
    fields_data-fields_of (map pair_of l.found.items)
    ∙ ap members_of_pairs (l.invariant.found ∙ ap (map entry_data) all)
    ∙ members_of_pairs-entry_data c.args.members.entries
