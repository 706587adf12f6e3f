-- The document is that of the set that is there.
use Rattle.std.specs.Prelude.{Option, IfOk, option_copied}
use Rattle.std.proofs.Common.{◌≡◌, ap, subst, sym, Bor}
use Rattle.conflicts.specs.Decision.{decides}
use Rattle.conflicts.specs.Kept.{Kept, document}
use Rattle.conflicts.proofs.receipts.receive.Goals as goal

pub returns-in-Some : goal.returns-in-Some
returns-in-Some c =
    subst (λ (o : Option Kept). IfOk c.receive_over.result
    (λ t. t ≡ decides (document o) c.args.incoming.now c.args.save c.args.own.now))
    (ap (λ (o : Option (Bor Kept)). option_copied o) (sym c.in-Some.is)) c.receive_over.ensures
