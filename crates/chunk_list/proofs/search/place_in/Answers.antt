-- A look at one item.
use Rattle.std.proofs.Common.{◌≡◌, ◌+◌, ◌-◌, ◌/◌, ◌<◌, ℕ, length, arith, true, false, refl, subst}
use Rattle.std.proofs.lemmas.List.Elements.{at_read}
use Rattle.std.specs.Fn.{FnReturnsAt}
use Rattle.std.specs.List.{HoldsAt}
use Rattle.chunk_list.proofs.Halves.{look}
use Rattle.chunk_list.proofs.search.place_in.Goals as goal

pub loop-low-preserved-then-passes : goal.loop-low-preserved-then-passes
loop-low-preserved-then-passes g c =
    let low = c.loop-low.low in
    let high = c.loop-low.high in
    let middle : ℕ = low + (high - low) / 2 in
    let back : middle ≡ middle + 1 - 1 = omega arith in
    record {
      known = omega arith;
      rising = omega arith;
      within = c.loop-low.invariant.within;
      passed = λ _. subst (HoldsAt (λ x. FnReturnsAt g.F.Fn c.args.passes.now x true) c.args.items.now.items) back
          (at_read c.args.items.now.items (λ x. FnReturnsAt g.F.Fn c.args.passes.now x true) middle c.index.result.now
          (omega arith) c.index.ensures
          (record { shown = c.index.result; shows = refl; says = record { met = c.if-passes.ensures } }));
      failed = c.loop-low.invariant.failed;
      looks = look _ (high - low) _ _ _ _ c.loop-low.invariant.looks c.tick.ensures (omega arith) (omega arith);
    }

pub loop-low-preserved : goal.loop-low-preserved
loop-low-preserved g c =
    let low = c.loop-low.low in
    let high = c.loop-low.high in
    let middle : ℕ = low + (high - low) / 2 in
    record {
      known = omega arith;
      rising = omega arith;
      within = omega arith;
      passed = c.loop-low.invariant.passed;
      failed = λ _. at_read c.args.items.now.items
          (λ x. FnReturnsAt g.F.Fn c.args.passes.now x false) middle c.index.result.now (omega arith) c.index.ensures
          (record { shown = c.index.result; shows = refl; says = record { met = c.if-passes.ensures } });
      looks = look _ (high - low) _ _ _ _ c.loop-low.invariant.looks c.tick.ensures (omega arith) (omega arith);
    }

pub returns-clause-after : goal.returns-clause-after
returns-clause-after g c =
    let all : c.loop-low.high ≡ c.loop-low.low = omega arith in
    subst (λ (n : ℕ). n < length c.args.items.now.items
    → HoldsAt (λ x. FnReturnsAt g.F.Fn c.args.passes.now x false) c.args.items.now.items n)
    all c.loop-low.invariant.failed
