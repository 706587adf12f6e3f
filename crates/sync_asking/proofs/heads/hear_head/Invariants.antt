use Rattle.std.proofs.Common.{◌≡◌, ◌-◌, length}
use Rattle.std.specs.Io.KnownBytes.{Consumes}
use Rattle.sync_link.specs.Links.{given_more}
use Rattle.u1_base.specs.declared.limits.TheConstants.{MOST_HEAD_BYTES}
use Rattle.sync_asking.proofs.heads.hear_head.Given as goal

abbrev pub invariant-loop-heard : goal.invariant-loop-heard
invariant-loop-heard g l =
    (g.L.Link.known l.link ≡ given_more l.heard (g.L.Link.known l.initial.link))
    × Consumes (g.L.Link.known l.initial.link).coming (g.L.Link.known l.link).coming l.heard

abbrev pub decreases-loop-heard : goal.decreases-loop-heard
decreases-loop-heard g l = MOST_HEAD_BYTES - length l.heard
