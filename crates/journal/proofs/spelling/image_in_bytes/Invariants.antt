use Rattle.std.proofs.Common.{◌≡◌, take}
use Rattle.journal.specs.Image.{up_to_gate}
use Rattle.journal.proofs.spelling.image_in_bytes.Given as goal

abbrev pub invariant-loop-body : goal.invariant-loop-body
invariant-loop-body l = l.out ≡ up_to_gate 2 l.header (take l.body-index l.bodies)
