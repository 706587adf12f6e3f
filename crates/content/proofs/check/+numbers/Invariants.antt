use Rattle.std.proofs.Common.{◌≡◌, drop}
use Rattle.serde_json.specs.View.{items_view, members_view}
use Rattle.content.specs.Faults.{any_in_items, any_in_members}
use Rattle.content.specs.inner.Kinds.{is_kind}
use Rattle.content.proofs.check.+numbers.Given as goal

abbrev pub invariant-items_have-loop-item : goal.invariant-items_have-loop-item
invariant-items_have-loop-item l =
    any_in_items (is_kind l.kind) (items_view l.item-items)
    ≡ any_in_items (is_kind l.kind) (items_view (drop l.item-index l.item-items))

abbrev pub invariant-members_have-loop-name : goal.invariant-members_have-loop-name
invariant-members_have-loop-name l =
    any_in_members (is_kind l.kind) (members_view l.members.entries)
    ≡ any_in_members (is_kind l.kind) (members_view l._name-iterator)
