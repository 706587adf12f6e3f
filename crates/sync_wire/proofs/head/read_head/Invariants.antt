use Rattle.std.proofs.Common.{◌≡◌, ◌≤◌, ◌-◌, length}
use Rattle.std.specs.Io.KnownBytes.{Consumes}
use Rattle.sync_http.specs.Hearing.{most_bytes}
use Rattle.sync_wire.proofs.head.read_head.Given as goal

-- what was read is gone from the source
abbrev pub invariant-loop-head : goal.invariant-loop-head
invariant-loop-head g l = record {
  read : Consumes (g.C.Source.known l.initial.conn).left (g.C.Source.known l.conn).left l.bytes;
  later : (g.C.Source.known l.initial.conn).faults ≤ (g.C.Source.known l.conn).faults;
  sink : g.C.Sink.known l.conn ≡ g.C.Sink.known l.initial.conn;
}

abbrev pub decreases-loop-head : goal.decreases-loop-head
decreases-loop-head g l = most_bytes - length l.bytes
