-- The document is that of the set that is there.
use Rattle.std.specs.Prelude.{◌⊎◌, Option, Err, option_copied}
use Rattle.std.proofs.Common.{◌≡◌, ap, subst, sym, Bor}
use Rattle.conflicts.specs.Kept.{Kept, document}
use Rattle.conflicts.specs.Making.{resolved}
use Rattle.conflicts.specs.declared.resolutions.ResolveFault.TheVariants as resolve_fault
use Rattle.conflicts.proofs.resolutions.resolve.Goals as goal

pub returns-in-Some : goal.returns-in-Some
returns-in-Some c =
    subst (λ (o : Option Kept). (c.resolve_there.result ≡ Err resolve_fault.Memory)
    ⊎ (c.resolve_there.result ≡ resolved (document o) c.args.named.now (option_copied c.args.content) c.args.own.now))
    (ap (λ (o : Option (Bor Kept)). option_copied o) (sym c.in-Some.is)) c.resolve_there.ensures
