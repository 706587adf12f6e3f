use Rattle.std.proofs.Common.{◌≡◌, drop}
use Rattle.cli_words.specs.Parted.{Any, joined, parted}
use Rattle.cli_words.proofs.parted.part.Given as goal

-- what is left is parted in the same way
abbrev pub invariant-loop-place : goal.invariant-loop-place
invariant-loop-place l = joined l.parted (parted l.next l.place (drop l.place l.words)) ≡ parted Any 2 (drop 2 l.words)
