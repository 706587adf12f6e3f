-- What `parse` refuses in a number is too great.
use Rattle.std.proofs.Common.{◌≡◌, ◌<◌, ◌^◌, true, None, sym, ◌∙◌, ap, subst, rules}
use Rattle.std.specs.Prelude.{MatchResult}
use Rattle.std.specs.Str.Parse.{digits_value}
use Rattle.cli_words.specs.Numbers.{is_number, number_in}
use Rattle.cli_words.proofs.Numerals.{parsed_number}
use Rattle.cli_words.proofs.numbers.number_in.Goals as goal

pub returns-in-Err-clause-value : goal.returns-in-Err-clause-value
returns-in-Err-clause-value c =
    let text = c.args.text.now in
    let number : is_number text ≡ true = ap is_number (sym c.as_bytes.ensures.value) ∙ sym c.is_number.ensures
    ∙ c.if-not-is_number.false in
    let small : c.args.greatest < 2 ^ 64 = search rules in
    sym (subst (λ r. MatchResult r (λ n. n ≡ digits_value 10 text)
    (λ _. number_in c.args.least c.args.greatest text ≡ None)) c.in-Err.is
    (parsed_number c.args.least c.args.greatest text c.parse.result number small c.parse.ensures.value.0))
