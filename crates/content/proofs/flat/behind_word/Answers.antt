-- What `strip_prefix` says of bytes.
use Rattle.std.proofs.lemmas.Bool.Decides.{Decides-eqb}
use Rattle.std.proofs.lemmas.Slice.Eq.{strip_prefix_is}
use Rattle.content.proofs.FlatTexts.{some_of_match}
use Rattle.content.proofs.flat.behind_word.Goals as goal

pub returns-clause-word : goal.returns-clause-word
returns-clause-word c =
    some_of_match _ _ c.strip_prefix.result
    (strip_prefix_is Decides-eqb c.args.bytes.now c.args.word.now c.strip_prefix.result c.strip_prefix.ensures.cases)
