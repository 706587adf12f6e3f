-- The search for the start ends where the range starts.
use Rattle.std.proofs.Common.{ℕ, List, Option, Bor, option_copied, sym, subst}
use Rattle.index_tables.specs.Order.{FallsAt}
use Rattle.query_range.specs.inner.Wanted.{StartsAt}
use Rattle.query_range.proofs.Ranges.{starts_at}
use Rattle.query_range.proofs.range.start_of.Goals as goal

pub returns-in-Some-clause-place : goal.returns-in-Some-clause-place
returns-in-Some-clause-place g c =
    subst (λ (o : Option (Bor (List (List ℕ)))). StartsAt (option_copied o) c.args.table.now.pairs c.seek.result)
    (sym c.in-Some.is)
    (starts_at c.args.table.now.pairs c.in-Some.key.now c.seek.result
    (subst (λ (k : List (List ℕ)). FallsAt c.args.table.now.pairs k c.seek.result) c.texts.ensures.value
    c.seek.ensures.place))
