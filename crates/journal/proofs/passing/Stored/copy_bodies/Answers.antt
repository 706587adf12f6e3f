-- At the closed gate all bodies were copied.
use Rattle.std.proofs.Common.{sym}
use Rattle.journal.proofs.passing.Stored.copy_bodies.Goals as goal

pub returns : goal.returns
returns c = sym (c.in_default.ensures.meets c.loop-entry.bodies c.loop-entry.invariant)
