-- One run more, and the end of the list.
use Rattle.std.proofs.Common.{◌≡◌, [], ◌∷◌, ◌++◌, List, length, map, refl, sym, ◌∙◌, ap, subst, append-nil}
use Rattle.std.proofs.Common.{append_assoc, arith, rules}
use Rattle.std.proofs.lemmas.Grind.{common_steps}
use Rattle.std.proofs.lemmas.List.{length-append}
use Rattle.std.specs.Vec.Iter.{into_iter_items}
use Rattle.command_lines.specs.declared.outcome.Outcome.{Outcome}
use Rattle.outside.specs.Known.{outside_known}
use Rattle.run_lists.specs.Lists.{RunInTurn, asked, between}
use Rattle.run_lists.proofs.list.run_each.Goals as goal

pub loop-request-init : goal.loop-request-init
loop-request-init g c =
    let all = c.into_iter-request-iterator.ensures.into_iter_gives.0 in
    record {
      count = c.in-Ok.ensures.len;
      room = first_of (search rules, grind (arith, common_steps));
      left = sym all;
      so_far = λ after others x.
          let known = outside_known g.S.Source.known g.K.Sink.known g.L.Link.known g.A.Acceptor.known
          g.A.Conn.Source.known g.A.Conn.Sink.known in
          let start = between g.D.Disk.known c.args.disks (known c.args.outside.now) in
          subst (λ (os : List Outcome). RunInTurn g.D.Disk.tells
          (map (asked g.S.Source.known) c.args.requests.items) start after (os ++ others)) (sym c.in-Ok.ensures.items)
          (subst (λ rs. RunInTurn g.D.Disk.tells (map (asked g.S.Source.known) rs) start after others) all x);
    }

pub push_outcome-requires : goal.push_outcome-requires
push_outcome-requires g c =
    let i = c.loop-request.invariant in
    let rest = ap (λ rs. length rs) c.in-Some.ensures.steps.0 in
    let all = ap (λ rs. length rs) i.left
    ∙ length-append c.loop-request.yielded (into_iter_items c.loop-request.request-iterator) in
    omega (arith, i.count, i.room, all, rest)

pub loop-request-preserved : goal.loop-request-preserved
loop-request-preserved g c =
    let i = c.loop-request.invariant in
    let tells = g.D.Disk.tells in
    let known = outside_known g.S.Source.known g.K.Sink.known g.L.Link.known g.A.Acceptor.known
    g.A.Conn.Source.known g.A.Conn.Sink.known in
    let middle = between g.D.Disk.known c.run_one-outcome.result.1 (known c.run_one-outcome.new.outside) in
    let start = between g.D.Disk.known c.args.disks (known c.args.outside.now) in
    let now = between g.D.Disk.known c.loop-request.disks (known c.loop-request.outside) in
    let outcome = c.run_one-outcome.result.0 in
    record {
      count = omega (
        arith,
        c.push_outcome.ensures.count,
        i.count,
        length-append c.loop-request.yielded (c.in-Some.request ∷ []),
      );
      room = omega (arith, c.push_outcome.ensures.room, i.room);
      left = i.left ∙ ap (λ rs. c.loop-request.yielded ++ rs) c.in-Some.ensures.steps.0
          ∙ sym (append_assoc c.loop-request.yielded (c.in-Some.request ∷ []) (into_iter_items c.next.new.self));
      so_far = λ after others x.
          let one = subst (λ rs. RunInTurn tells (map (asked g.S.Source.known) rs) now after (outcome ∷ others))
          (sym c.in-Some.ensures.steps.0)
          (middle, c.run_one-outcome.ensures, x) in
          subst (λ (os : List Outcome). RunInTurn tells
          (map (asked g.S.Source.known) c.args.requests.items) start after os)
          (sym (append_assoc c.loop-request.outcomes.items (outcome ∷ []) others)
          ∙ ap (λ (os : List Outcome). os ++ others) (sym c.push_outcome.ensures.items))
          (i.so_far after (outcome ∷ others) one);
    }

pub returns-clause-runs : goal.returns-clause-runs
returns-clause-runs g c =
    let i = c.loop-request.invariant in
    let tells = g.D.Disk.tells in
    let known = outside_known g.S.Source.known g.K.Sink.known g.L.Link.known g.A.Acceptor.known
    g.A.Conn.Source.known g.A.Conn.Sink.known in
    let start = between g.D.Disk.known c.args.disks (known c.args.outside.now) in
    let now = between g.D.Disk.known c.loop-request.disks (known c.loop-request.outside) in
    let none : into_iter_items c.loop-request.request-iterator ≡ [] =
    first_of (search rules, grind (arith, common_steps)) in
    subst (λ (os : List Outcome). RunInTurn tells (map (asked g.S.Source.known) c.args.requests.items) start now os)
    (append-nil c.loop-request.outcomes.items)
    (i.so_far now [] (subst (λ rs. RunInTurn tells (map (asked g.S.Source.known) rs) now now []) (sym none) refl))
