-- What was passed is the high part of the number, and what is left the low part.
use Rattle.std.proofs.Common.{◌≡◌, ◌+◌, ◌-◌, ◌*◌, ◌^◌, ◌<◌, drop}
use Rattle.key_lanes.specs.AbbreviatedKeys.{abbreviated_key}
use Rattle.key_lanes.proofs.abbreviated.abbreviated_key.Given as goal

abbrev pub invariant-loop-at : goal.invariant-loop-at
invariant-loop-at l = record {
  whole : abbreviated_key l.places l.bytes ≡ l.number * 256 ^ (l.places - l.at)
      + abbreviated_key (l.places - l.at) (drop l.at l.bytes);
  fits : l.number < 256 ^ l.at;
}
