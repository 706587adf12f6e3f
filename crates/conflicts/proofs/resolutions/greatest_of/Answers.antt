-- The greatest counter does not go by the order.
use Rattle.std.proofs.Common.{◌∙◌, ap}
use Rattle.conflicts.specs.Kept.{current}
use Rattle.conflicts.specs.Making.{greatest, revs}
use Rattle.conflicts.proofs.Loops.{greatest_ordered}
use Rattle.conflicts.proofs.resolutions.greatest_of.Goals as goal

pub returns : goal.returns
returns c =
    greatest_ordered c.args.own.now (current c.args.set.now).rev c.args.set.now.members c.greatest_among.result
    (c.greatest_among.ensures ∙ ap (λ ms. greatest c.args.own.now (revs ms)) c.members.ensures)
