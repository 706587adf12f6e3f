-- The last name that was passed is a text.
use denote.Shadow.{shadow}
use denote.Text.{Utf8}
use Rattle.u1db.proofs.usage.named.Given as goal

abbrev pub invariant-loop-place : goal.invariant-loop-place
invariant-loop-place l = shadow (Utf8 l.last)
