-- Nothing refuses.
use Rattle.std.specs.Prelude.{option_copied}
use Rattle.std.proofs.Common.{◌∙◌, ap, arith}
use Rattle.conflicts.specs.Kept.{current, current_first}
use Rattle.conflicts.specs.Making.{greatest}
use Rattle.conflicts.proofs.Unrefused.{resolution_last, not_none, not_below}
use Rattle.conflicts.proofs.resolutions.resolve_over.Goals as goal

pub returns : goal.returns
returns c =
    resolution_last (current c.args.set.now).rev (current_first c.args.set.now) c.args.named.now
    (option_copied c.args.content) c.args.own.now c.in_ok-parents.parents.items c.resolution.result
    c.in_ok-parents.ensures
    (not_none c.in_ok-parents.parents.items (omega arith))
    (not_below c.greatest_in.result c.greatest_of-most.result _ _
    (c.greatest_in.ensures ∙ ap (greatest c.args.own.now) c.as_slice-2.ensures.value) c.greatest_of-most.ensures
    (omega arith))
    c.resolution.ensures
