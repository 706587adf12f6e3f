-- `next` gives the first character, and `as_str` what follows it.
use Rattle.std.proofs.Common.{◌++◌, encode_utf8, sym, ◌∙◌, ap}
use Rattle.expr_parser.proofs.Texts.{first_char, no_char}
use Rattle.expr_parser.proofs.reader.first_of.Goals as goal

pub returns-in-Some : goal.returns-in-Some
returns-in-Some c =
    first_char c.args.text.now c.as_str.result.now c.in-Some.first c.utf8.text
    (sym c.chars-chars.ensures.rest
    ∙ (c.in-Some.ensures.steps.0 ∙ ap (λ x. encode_utf8 c.in-Some.first ++ x) (sym c.as_str.ensures)))

pub returns-in-None : goal.returns-in-None
returns-in-None c = no_char c.args.text.now (sym c.chars-chars.ensures.len ∙ c.in-None.ensures.steps.0.0)
