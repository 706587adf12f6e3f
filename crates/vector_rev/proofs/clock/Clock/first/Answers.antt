-- The one entry counts the own uid once.
use Rattle.std.proofs.Common.{◌≡◌, [], ◌∷◌, rules}
use Rattle.vector_rev.proofs.ClockLaws.{IsFirst-entries}
use Rattle.vector_rev.proofs.clock.Clock.first.Goals as goal

pub returns : goal.returns
returns c =
    let entries : c.push.new.self.items ≡ (c.args.own.now, 1) ∷ [] = search rules in
    IsFirst-entries c.args.own.now _ entries
