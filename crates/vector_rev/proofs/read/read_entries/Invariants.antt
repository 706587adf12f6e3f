use Rattle.std.proofs.Common.{length}
use Rattle.vector_rev.specs.ClockText.{parts_of}
use Rattle.vector_rev.proofs.Reading.{AreRead}
use Rattle.vector_rev.proofs.read.read_entries.Given as goal

abbrev pub invariant-loop-part : goal.invariant-loop-part
invariant-loop-part l = AreRead (parts_of l.text) (length l.yielded) l.entries
