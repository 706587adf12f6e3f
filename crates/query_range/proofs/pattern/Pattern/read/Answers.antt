-- This value breaks the rule, and none before it does.
use Rattle.std.proofs.Common.{arith, sym, ◌∙◌}
use Rattle.query_range.proofs.Reading.{breaks_first}
use Rattle.query_range.proofs.pattern.Pattern.read.Goals as goal

pub returns-then-not-is_any : goal.returns-then-not-is_any
returns-then-not-is_any c =
    let i = c.loop-place.invariant in (
      omega arith,
      breaks_first c.args.values.now c.loop-place.place c.index-values-place.result c.loop-place.parts
          c.in_ok-part.part c.loop-place.opened (omega arith) c.index-values-place.is c.in_ok-part.ensures
          i.parts i.opened i.pattern c.if-opened.true (sym c.is_any.ensures ∙ c.if-not-is_any.true),
    )
