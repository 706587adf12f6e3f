use Rattle.std.proofs.Common.{Err, [], subst, sym}
use Rattle.sync_asking.specs.Heard.{HearsSmall}
use Rattle.sync_asking.proofs.SmallReplies.{small_unasked}
use Rattle.sync_asking.proofs.small.ask_small.Goals as goal

pub returns-in-Err-clause-heard : goal.returns-in-Err-clause-heard
returns-in-Err-clause-heard g c = (
  [],
  c.in-Err.ensures.given_up,
  subst (λ f. HearsSmall [] (Err f)) (sym c.ask_fault.ensures) (small_unasked c.in-Err.fault),
)
