-- One call more, and the end of the list.
use Rattle.std.proofs.Common.{◌≡◌, ◌+◌, ◌∷◌, List, drop, sym, ◌∙◌, ap, subst, arith}
use Rattle.std.proofs.lemmas.List.{drop_all, drop_more}
use Rattle.replica_core.specs.Runs.{Ends, HaveRun}
use Rattle.replica_core.specs.declared.list.Call.{Call}
use Rattle.replica_core.proofs.Runs.{SoFar, no_more, nothing_yet, one_more, the_last}
use Rattle.replica_core.proofs.list.make_all.Goals as goal

pub loop-call-init : goal.loop-call-init
loop-call-init g c = record {
  count = c.in_ok-ends.ensures.len;
  room = omega (arith, c.in_ok-ends.ensures.exact);
  so_far = nothing_yet g.R.Replica.known g.R.Replica.is_open g.R.Replica.crash c.args.replica.now c.args.calls.now
      c.in_ok-ends.ends.items c.requires
      (λ found h. g.met.R.Replica.settled c.args.replica.now found c.requires h) c.in_ok-ends.ensures.items;
}

pub loop-call-preserved : goal.loop-call-preserved
loop-call-preserved g c =
    let l = c.loop-call in
    let cs = c.args.calls.now in
    let split : drop l.call-index cs ≡ c.call-item.result ∷ drop (l.call-index + 1) cs =
    drop_more cs l.call-index c.call-item.result c.loop-call-test.true
    ∙ ap (λ y. y ∷ drop (l.call-index + 1) cs) (sym {A = Call} c.call-item.is) in
    record {
      count = omega (arith, c.push_end.ensures.count, l.invariant.count);
      room = omega (arith, c.push_end.ensures.room, l.invariant.room);
      so_far = subst (λ (es : Ends). SoFar g.R.Replica.known g.R.Replica.is_open g.R.Replica.crash c.args.replica.now
          c.make_call-end.new.replica cs (drop (l.call-index + 1) cs) es) (sym c.push_end.ensures.items)
          (one_more g.R.Replica.known g.R.Replica.is_open g.R.Replica.crash c.args.replica.now l.replica
          c.make_call-end.new.replica cs c.call-item.result
          (drop (l.call-index + 1) cs) l.ends.items c.make_call-end.result
          (subst (λ (xs : List Call). SoFar g.R.Replica.known g.R.Replica.is_open g.R.Replica.crash c.args.replica.now
          l.replica cs xs l.ends.items) split l.invariant.so_far)
          c.make_call-end.ensures (sym c.stays_open-open.ensures ∙ c.if-not-open.false));
    }

pub returns-then-not-open : goal.returns-then-not-open
returns-then-not-open g c =
    let l = c.loop-call in
    let cs = c.args.calls.now in
    let split : drop l.call-index cs ≡ c.call-item.result ∷ drop (l.call-index + 1) cs =
    drop_more cs l.call-index c.call-item.result c.loop-call-test.true
    ∙ ap (λ y. y ∷ drop (l.call-index + 1) cs) (sym {A = Call} c.call-item.is) in
    let done = subst (λ (es : Ends). HaveRun g.R.Replica.known g.R.Replica.is_open g.R.Replica.crash c.args.replica.now
    c.make_call-end.new.replica cs es) (sym c.push_end.ensures.items)
    (the_last g.R.Replica.known g.R.Replica.is_open g.R.Replica.crash c.args.replica.now l.replica
    c.make_call-end.new.replica cs c.call-item.result (drop (l.call-index + 1) cs) l.ends.items c.make_call-end.result
    (subst (λ (xs : List Call). SoFar g.R.Replica.known g.R.Replica.is_open g.R.Replica.crash c.args.replica.now
    l.replica cs xs l.ends.items) split l.invariant.so_far)
    c.make_call-end.ensures (sym c.stays_open-open.ensures ∙ c.if-not-open.true)) in
    record { memory = tt; run = done }

pub returns : goal.returns
returns g c =
    let l = c.loop-call in
    let cs = c.args.calls.now in
    let done = no_more g.R.Replica.known g.R.Replica.is_open g.R.Replica.crash c.args.replica.now l.replica cs
    (drop l.call-index cs) l.ends.items (drop_all l.call-index cs c.loop-call-test.false) l.invariant.so_far in
    record { memory = tt; run = done }
