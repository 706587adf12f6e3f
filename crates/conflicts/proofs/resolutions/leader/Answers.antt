-- Where the current member has another counter, the first one of all that has it is another one.
use Rattle.std.specs.Prelude.{◌==◌, Option, find, unwrap_or}
use Rattle.std.specs.Option.{option_map}
use Rattle.std.proofs.Common.{◌∙◌, ap}
use Rattle.vector_rev.specs.Clock.{count_of}
use Rattle.conflicts.specs.declared.member.Member.{Member}
use Rattle.conflicts.proofs.Loops.{leader_current, leader_other}
use Rattle.conflicts.proofs.resolutions.leader.Goals as goal

pub returns-then-count-most : goal.returns-then-count-most
returns-then-count-most c =
    leader_current c.args.own.now c.args.set.now c.current-current.result.now c.args.most c.count.result c.requires
    c.current-current.ensures c.count.ensures c.if-count-most.true

pub returns-in-Some : goal.returns-in-Some
returns-in-Some c =
    leader_other c.args.own.now c.args.set.now c.current-current.result.now c.args.most c.count.result
    c.in-Some.member.now.rev c.requires c.current-current.ensures c.count.ensures c.if-count-most.false
    (ap (λ (o : Option Member). unwrap_or (option_map (λ (m : Member). m.rev) o) c.current-current.result.now.rev)
    (c.in-Some.ensures ∙ ap (find (λ m. count_of m.rev c.args.own.now == c.args.most)) c.members.ensures))

pub returns-in-None : goal.returns-in-None
returns-in-None c =
    leader_other c.args.own.now c.args.set.now c.current-current.result.now c.args.most c.count.result
    c.current-current.result.now.rev c.requires c.current-current.ensures c.count.ensures c.if-count-most.false
    (ap (λ (o : Option Member). unwrap_or (option_map (λ (m : Member). m.rev) o) c.current-current.result.now.rev)
    (c.in-None.ensures ∙ ap (find (λ m. count_of m.rev c.args.own.now == c.args.most)) c.members.ensures))
