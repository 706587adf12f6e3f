use Rattle.std.proofs.Common.{◌≡◌, nat_lt, drop}
use Rattle.serde_json.specs.Data.{items_depth, members_depth}
use Rattle.serde_json.specs.View.{items_view, members_view}
use Rattle.content.proofs.check.+nesting.Given as goal

abbrev pub invariant-items_nest_deeper-loop-item : goal.invariant-items_nest_deeper-loop-item
invariant-items_nest_deeper-loop-item l =
    nat_lt l.most (items_depth (items_view l.item-items))
    ≡ nat_lt l.most (items_depth (items_view (drop l.item-index l.item-items)))

abbrev pub invariant-members_nest_deeper-loop-name : goal.invariant-members_nest_deeper-loop-name
invariant-members_nest_deeper-loop-name l =
    nat_lt l.most (members_depth (members_view l.members.entries))
    ≡ nat_lt l.most (members_depth (members_view l._name-iterator))
