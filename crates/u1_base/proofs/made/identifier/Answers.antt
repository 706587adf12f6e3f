-- Each step of `uuid` is the definition's.
use Rattle.std.proofs.Common.{refl}
use Rattle.u1_base.specs.NewId.{identifier_text}
use Rattle.u1_base.proofs.made.identifier.Goals as goal

pub returns : goal.returns
unfolding identifier_text
returns c = rw (c.encode_lower.ensures.text, c.simple.ensures, c.new_v5.ensures.value, c.from_u128.ensures) refl
