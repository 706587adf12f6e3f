use Rattle.std.proofs.Common.{◌≡◌, take}
use Rattle.std.specs.Prelude.{string_bytes}
use Rattle.vector_rev.specs.ClockText.{entries_text}
use Rattle.vector_rev.proofs.clock.Clock.text.Given as goal

abbrev pub invariant-loop-i : goal.invariant-loop-i
invariant-loop-i l = string_bytes l.text ≡ entries_text (take l.i l.entries)
