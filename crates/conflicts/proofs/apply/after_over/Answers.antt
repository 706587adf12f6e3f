-- What is copied and what is counted before the current member is that of the set.
use Rattle.std.specs.Prelude.{List, filter, not}
use Rattle.std.proofs.Common.{◌∙◌, ap}
use Rattle.vector_rev.specs.Clock.{covers}
use Rattle.conflicts.specs.declared.member.Member.{Member}
use Rattle.conflicts.proofs.Applied.{apart_of, applied_ok, there_of}
use Rattle.conflicts.proofs.apply.after_over.Goals as goal

pub accepted-requires-clause-there : goal.accepted-requires-clause-there
accepted-requires-clause-there c =
    there_of c.args.set.now c.args.accept c.in_ok-kept.kept.items c.kept_before-before.result c.requires
    (c.in_ok-kept.ensures ∙ ap (λ (ms : List Member). filter (λ m. not (covers c.args.accept.rev m.rev)) ms)
    c.members.ensures)
    c.kept_before-before.ensures

pub accepted-requires-clause-apart : goal.accepted-requires-clause-apart
accepted-requires-clause-apart c =
    apart_of c.args.set.now c.args.accept c.in_ok-kept.kept.items c.requires
    (c.in_ok-kept.ensures ∙ ap (λ (ms : List Member). filter (λ m. not (covers c.args.accept.rev m.rev)) ms)
    c.members.ensures)

pub returns : goal.returns
returns c =
    applied_ok c.accepted.result c.args.set.now c.args.accept c.in_ok-kept.kept.items
    c.kept_before-before.result c.requires
    (c.in_ok-kept.ensures ∙ ap (λ (ms : List Member). filter (λ m. not (covers c.args.accept.rev m.rev)) ms)
    c.members.ensures)
    c.kept_before-before.ensures c.accepted.ensures.members c.accepted.ensures.place
