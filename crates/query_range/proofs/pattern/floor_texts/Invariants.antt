-- What is still to come from the other parts makes the floor whole.
use Rattle.std.proofs.Common.{◌≡◌, ◌++◌, drop}
use Rattle.query_range.specs.inner.Floor.{floor_of}
use Rattle.query_range.proofs.pattern.floor_texts.Given as goal

abbrev pub invariant-loop-part : goal.invariant-loop-part
invariant-loop-part l = l.texts ++ floor_of (drop l.part-index l.parts) ≡ floor_of l.parts
