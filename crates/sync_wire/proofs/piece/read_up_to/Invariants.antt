use Rattle.std.proofs.Common.{◌≡◌, ◌⊎◌, ◌≤◌, ◌-◌, length}
use Rattle.sync_wire.proofs.Opens.{HasRead}
use Rattle.sync_wire.proofs.piece.read_up_to.Given as goal

-- what was read was added, and is gone from the source
abbrev pub invariant-loop-bytes : goal.invariant-loop-bytes
invariant-loop-bytes g l = record {
  read : HasRead (g.C.Source.known l.initial.conn).left (g.C.Source.known l.conn).left l.initial.bytes l.bytes;
  within : (length l.bytes ≤ l.end) ⊎ (l.bytes ≡ l.initial.bytes);
  later : (g.C.Source.known l.initial.conn).faults ≤ (g.C.Source.known l.conn).faults;
  sink : g.C.Sink.known l.conn ≡ g.C.Sink.known l.initial.conn;
}

abbrev pub decreases-loop-bytes : goal.decreases-loop-bytes
decreases-loop-bytes g l = l.end - length l.bytes
