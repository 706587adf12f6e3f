-- Each turn looks at one entry, from the end on.
use Rattle.std.proofs.Common.{refl, ◌∙◌, ap, arith}
use Rattle.translog.specs.Entries.{changes_since}
use Rattle.translog.proofs.LastEntries.{walked_new, walked_old, walked_end}
use Rattle.translog.proofs.log.Log.changed_since.Goals as goal
use Rattle.translog.proofs.log.Log.changed_since.Goals.{then-branch+in_ok-push_change, else-branch}

pub loop-place-preserved : goal.loop-place-preserved
loop-place-preserved c =
    elim c.if-branch.branch [
      | then-branch+in_ok-push_change w ↦
          walked_new c.entries-entries.result.now c.args.generation c.loop-place.place c.loop-place.later
          c.insert.new.self c.loop-place.changes.items c.if-branch.changes.items
          c.index-entries-place.result c.as_str.result c.in_ok-insert.field-0 _
          (omega arith) c.loop-place.invariant.within c.index-entries-place.is c.as_str.ensures.value
          c.loop-place.invariant
          c.in_ok-insert.ensures.updates c.in_ok-insert.ensures.added w.if-branch.true refl
          (ap (λ v. v.items) w.changes-is ∙ w.in_ok-push_change.ensures)
      | else-branch w ↦
          walked_old c.entries-entries.result.now c.args.generation c.loop-place.place c.loop-place.later
          c.insert.new.self c.loop-place.changes.items c.if-branch.changes.items
          c.index-entries-place.result c.as_str.result c.in_ok-insert.field-0
          (omega arith) c.loop-place.invariant.within c.index-entries-place.is c.as_str.ensures.value
          c.loop-place.invariant
          c.in_ok-insert.ensures.updates c.in_ok-insert.ensures.added w.if-branch.false (ap (λ v. v.items) w.changes-is)
    ]

pub returns : goal.returns
returns c =
    walked_end c.entries-entries.result.now c.args.generation c.loop-place.place c.loop-place.later
    c.loop-place.changes.items c.from_vec.result (omega arith) c.loop-place.invariant
    (c.from_vec.ensures ∙ c.reverse.ensures.items)
    ∙ ap (λ es. changes_since es c.args.generation) c.entries-entries.ensures.value
