-- What is dropped and what is counted before the current member is that of the set.
use Rattle.std.specs.Prelude.{filter, not}
use Rattle.std.proofs.Common.{◌∙◌, ap}
use Rattle.vector_rev.specs.Clock.{covers}
use Rattle.conflicts.specs.Kept.{Kept}
use Rattle.conflicts.proofs.Applied.{apart_of, applied_ok, there_of}
use Rattle.conflicts.proofs.apply.apply_to.Goals as goal

pub accepted-requires-clause-there : goal.accepted-requires-clause-there
accepted-requires-clause-there c =
    there_of c.args.set c.args.accept c.drop_covered.new.members.items c.kept_before-before.result c.requires
    (c.drop_covered.ensures
    ∙ ap (λ (k : Kept). filter (λ m. not (covers c.args.accept.rev m.rev)) k.members) c.set.view_is)
    c.kept_before-before.ensures

pub accepted-requires-clause-apart : goal.accepted-requires-clause-apart
accepted-requires-clause-apart c =
    apart_of c.args.set c.args.accept c.drop_covered.new.members.items c.requires
    (c.drop_covered.ensures
    ∙ ap (λ (k : Kept). filter (λ m. not (covers c.args.accept.rev m.rev)) k.members) c.set.view_is)

pub returns : goal.returns
returns c =
    applied_ok c.accepted.result c.args.set c.args.accept c.drop_covered.new.members.items
    c.kept_before-before.result c.requires
    (c.drop_covered.ensures
    ∙ ap (λ (k : Kept). filter (λ m. not (covers c.args.accept.rev m.rev)) k.members) c.set.view_is)
    c.kept_before-before.ensures c.accepted.ensures.members c.accepted.ensures.place
