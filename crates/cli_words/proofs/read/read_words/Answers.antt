use Rattle.std.proofs.Common.{rules, ◌≡◌, ℕ, ◌≤◌, List, [], ◌∷◌, length, drop, get_or, Some, None, sym, ap, ap₂, ◌∙◌}
use Rattle.std.proofs.Common.{subst, arith}
use Rattle.cli_words.specs.Faults.{Answers}
use Rattle.cli_words.specs.Parted.{Any, parted}
use Rattle.cli_words.specs.Table.{verb_in}
use Rattle.cli_words.specs.Words.{command_in, command_named}
use Rattle.cli_words.proofs.read.read_words.Goals as goal

-- the second word names the command
named : (words : List (List ℕ)) (word : List ℕ) → 2 ≤ length words → word ≡ get_or words 1 word
    → command_in words ≡ command_named (verb_in word) (parted Any 2 (drop 2 words))
named [] word two at = absurd (omega arith)
named (directory ∷ []) word two at = absurd (omega arith)
named (directory ∷ second ∷ words) word two at =
    ap (λ w. command_named (verb_in w) (parted Any 2 words)) (sym at)

pub returns-in_default : goal.returns-in_default
returns-in_default c =
    let unknown : verb_in c.index-words-1.result ≡ None = search rules in
    named c.args.words.now c.index-words-1.result c.if-words-lt2.false c.index-words-1.is
    ∙ ap (λ v. command_named v (parted Any 2 (drop 2 c.args.words.now))) unknown

pub returns : goal.returns
returns c =
    let known : verb_in c.index-words-1.result ≡ Some c.in-Some.verb =
    ap verb_in (sym c.as_str.ensures) ∙ sym c.of_word.ensures ∙ c.in-Some.is in
    let parts : parted Any 2 (drop 2 c.args.words.now) ≡ c.in_ok-parted.parted = search rules in
    subst (λ said. Answers said c.read_named.result)
    (sym (named c.args.words.now c.index-words-1.result c.if-words-lt2.false c.index-words-1.is
    ∙ ap₂ command_named known parts))
    c.read_named.ensures
