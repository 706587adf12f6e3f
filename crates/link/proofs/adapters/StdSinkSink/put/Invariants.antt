use Rattle.std.proofs.Common.{◌≡◌, ◌≤◌, ◌-◌, true, length, take}
use Rattle.std.specs.Io.KnownBytes.{Appends}
use Rattle.link.proofs.adapters.StdSinkSink.put.Given as goal

-- the writer has the first bytes of the piece, and may hold them back
abbrev pub invariant-loop-done : goal.invariant-loop-done
invariant-loop-done g l = record {
  within : l.done ≤ length l.piece;
  taken : Appends (g.W.Write.contents l.initial.self.inner) (g.W.Write.contents l.self.inner) (take l.done l.piece);
  faults : l.initial.self.faults ≡ l.self.faults;
  noted : l.self.holds_back ≡ true;
}

abbrev pub decreases-loop-done : goal.decreases-loop-done
decreases-loop-done g l = length l.piece - l.done
