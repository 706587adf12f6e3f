-- The current member is the first one.
use Rattle.std.specs.Prelude.{List, [], ◌∷◌, ◌++◌}
use Rattle.std.proofs.Common.{◌∙◌, ap₂}
use Rattle.vector_rev.specs.Clock.{Clock}
use Rattle.conflicts.proofs.Walks.{merging_first}
use Rattle.conflicts.proofs.merges.merging_with.Goals as goal

pub returns : goal.returns
returns c =
    merging_first c.args.set.now c.args.incoming.now c.args.own.now c.current-current.result.now c.note.new.merging
    c.push.new.self c.same_contents-leads.result c.current-current.ensures c.requires.not_newer c.requires.not_older
    c.same_contents-leads.ensures
    (c.in_ok-push.ensures.ok
    ∙ ap₂ (λ (v : List Clock) (r : Clock). v ++ r ∷ []) c.new-parents.ensures c.in_ok-copy.ensures)
    c.in_ok-note.ensures.parents c.in_ok-note.ensures.leads c.in_ok-note.ensures.most
