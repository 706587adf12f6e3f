use Rattle.std.proofs.Common.{◌≡◌, ◌++◌, List, ℕ, length, ◌-◌}
use Rattle.std.specs.Io.KnownBytes.{Consumes}
use Rattle.sync_link.specs.Links.{given_more}
use Rattle.sync_asking.proofs.hearing.hear_up_to.Given as goal

abbrev pub invariant-loop-heard : goal.invariant-loop-heard
invariant-loop-heard g l =
    (piece : List ℕ) × (l.heard ≡ l.initial.heard ++ piece)
    × (g.L.Link.known l.link ≡ given_more piece (g.L.Link.known l.initial.link))
    × Consumes (g.L.Link.known l.initial.link).coming (g.L.Link.known l.link).coming piece

abbrev pub decreases-loop-heard : goal.decreases-loop-heard
decreases-loop-heard g l = l.end - length l.heard
