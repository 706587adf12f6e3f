use Rattle.std.proofs.Common.{◌≡◌, take}
use Rattle.u1_base.proofs.items.Texts.duplicate.Given as goal

abbrev pub invariant-loop-text : goal.invariant-loop-text
invariant-loop-text l = l.inner.items ≡ take l.text-index l.self
