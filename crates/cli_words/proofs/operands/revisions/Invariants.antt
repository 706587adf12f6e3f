use Rattle.std.proofs.Common.{◌≡◌, ◌++◌, drop}
use Rattle.cli_words.specs.Operands.{each, revision, with_one}
use Rattle.cli_words.proofs.operands.revisions.Given as goal

-- the revisions so far stand before those of the words that are left
abbrev pub invariant-loop-word : goal.invariant-loop-word
invariant-loop-word l = each revision l.words
    ≡ with_one (λ rest. l.revs ++ rest) (each revision (drop l.word-index l.words))
