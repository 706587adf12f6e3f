-- What `parse` refuses in a numeral is no counter.
use Rattle.std.proofs.Common.{◌≡◌, false, true, MatchResult, sym, ◌∙◌, ap, subst}
use Rattle.std.specs.Str.Parse.{digits_value}
use Rattle.vector_rev.specs.ClockText.{is_numeral, is_counter}
use Rattle.vector_rev.proofs.Reading.{parsed_numeral}
use Rattle.vector_rev.proofs.read.counter_of.Goals as goal

pub returns-in-Err : goal.returns-in-Err
returns-in-Err c =
    let numeral : is_numeral c.args.digits.now ≡ true = ap is_numeral (sym c.as_bytes.ensures.value)
    ∙ sym c.is_numeral.ensures ∙ c.if-not-is_numeral.false in
    subst (λ r. MatchResult r (λ n. n ≡ digits_value 10 c.args.digits.now) (λ _. is_counter c.args.digits.now ≡ false))
    c.in-Err.is
    (parsed_numeral c.args.digits.now c.parse.result numeral c.parse.ensures.value.0)
