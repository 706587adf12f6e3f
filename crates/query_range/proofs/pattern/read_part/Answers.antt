-- The value ends in no star.
use Rattle.std.proofs.Common.{arith, sym, ◌∙◌, ap, None}
use Rattle.std.proofs.lemmas.Str.Pattern.{strip_suffix_char}
use Rattle.query_range.specs.declared.pattern.Part.TheVariants.{Exact}
use Rattle.query_range.proofs.Reading.{exact_part}
use Rattle.query_range.proofs.pattern.read_part.Goals as goal

pub returns-in_ok-duplicate-in-None : goal.returns-in_ok-duplicate-in-None
returns-in_ok-duplicate-in-None c =
    ap Exact c.in_ok-duplicate-in-None.ensures
    ∙ sym (exact_part c.args.value.now
    (λ front is. strip_suffix_char 42 c.as_str.result.now None c.in-None.ensures.cases (omega arith) front
    (c.as_str.ensures ∙ is)))
