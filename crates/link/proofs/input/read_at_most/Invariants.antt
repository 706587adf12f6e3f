use Rattle.std.proofs.Common.{◌≡◌, ◌≤◌, ◌-◌, length}
use Rattle.std.specs.Io.KnownBytes.{Consumes}
use Rattle.link.proofs.input.read_at_most.Given as goal

-- what was read is what the source has no more
abbrev pub invariant-loop-bytes : goal.invariant-loop-bytes
invariant-loop-bytes g l = record {
  within : length l.bytes ≤ l.most;
  consumed : Consumes (g.S.Source.known l.initial.source).left (g.S.Source.known l.source).left l.bytes;
  faults : (g.S.Source.known l.source).faults ≡ (g.S.Source.known l.initial.source).faults;
}

abbrev pub decreases-loop-bytes : goal.decreases-loop-bytes
decreases-loop-bytes g l = l.most - length l.bytes
