-- The first byte tells which value it is.
use Rattle.std.proofs.Common.{true, false, arith}
use Rattle.std.proofs.lemmas.Option.{IfSome_then}
use Rattle.content.specs.Tree.{null, boolean}
use Rattle.content.proofs.FlatTexts.{behind_first, negative_value, number_value, word_value}
use Rattle.content.proofs.flat.behind_flat.Goals as goal

pub returns-in-45-clause-value : goal.returns-in-45-clause-value
returns-in-45-clause-value c =
    let bytes = c.args.bytes.now in
    let front = behind_first bytes 45 (omega arith) (grind arith) in
    IfSome_then c.behind_negative.result c.behind_negative.ensures.number
    (λ rest n. negative_value bytes _ rest.now n.0 front n.1 n.2 n.3)

pub returns-in-110-clause-value : goal.returns-in-110-clause-value
returns-in-110-clause-value c =
    word_value null c.args.bytes.now c.behind_word.result tt (omega arith) c.behind_word.ensures.word

pub returns-in-116-clause-value : goal.returns-in-116-clause-value
returns-in-116-clause-value c =
    let found = c.behind_word-in-116 in
    word_value (boolean true) c.args.bytes.now found.result tt (omega arith) found.ensures.word

pub returns-in-102-clause-value : goal.returns-in-102-clause-value
returns-in-102-clause-value c =
    let found = c.behind_word-in-102 in
    word_value (boolean false) c.args.bytes.now found.result tt (omega arith) found.ensures.word

pub returns-in_default-clause-value : goal.returns-in_default-clause-value
returns-in_default-clause-value c =
    IfSome_then c.behind_number.result c.behind_number.ensures.number
    (λ rest n. number_value c.args.bytes.now rest.now n.0 n.1 n.2)
