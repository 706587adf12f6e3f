-- The values so far are read, and their parts are a pattern.
use Rattle.std.proofs.Common.{◌≡◌, map, take}
use Rattle.std.specs.List.{list_any}
use Rattle.query_range.specs.Patterns.{IsPattern, is_open, part_of}
use Rattle.query_range.proofs.pattern.Pattern.read.Given as goal

abbrev pub invariant-loop-place : goal.invariant-loop-place
invariant-loop-place l = record {
  parts : l.parts ≡ map part_of (take l.place l.values);
  opened : l.opened ≡ list_any is_open l.parts;
  pattern : IsPattern l.parts;
}
