use Rattle.std.proofs.Common.{◌≡◌, map, take}
use Rattle.cli_words.specs.Word.{Word}
use Rattle.cli_words.proofs.operands.texts.Given as goal

abbrev pub invariant-loop-word : goal.invariant-loop-word
invariant-loop-word l = l.texts ≡ map (λ (w : Word). w.1) (take l.word-index l.words)
