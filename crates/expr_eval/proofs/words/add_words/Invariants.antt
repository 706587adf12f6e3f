-- The words so far, and those of the rest, are those of the text.
use Rattle.std.proofs.Common.{◌≡◌, ◌++◌, IsUtf8}
use Rattle.expr_eval.specs.inner.Lent.{lent}
use Rattle.expr_eval.specs.Words.{words_in}
use Rattle.expr_eval.proofs.words.add_words.Given as goal

abbrev pub invariant-loop-word : goal.invariant-loop-word
invariant-loop-word l = record {
  utf8 : IsUtf8 l.word-iterator.rest.now;
  words : lent l.words.items ++ words_in l.word-iterator.rest.now ≡ lent l.initial.words.items ++ words_in l.text;
}
