use Rattle.std.proofs.Common.{rules, ◌≡◌, ◌∙◌, ℕ, ap₂, subst, max, IfOk}
use Rattle.clap.specs.Walk.{rule_of}
use Rattle.clap.specs.Simple.{app_of, with_rule}
use Rattle.clap.specs.declared.builder.range.ValueRange.{ValueRange}
use Rattle.cli_words.specs.inner.Form.{IsForm, bare, most_of, operands_rule, with_option}
use Rattle.cli_words.proofs.Forms.{operands_rule_is}
use Rattle.cli_words.proofs.fits.command.Goals as goal

abbrev range_of : ℕ → ℕ → ValueRange
range_of s e = record { start_inclusive = s; end_inclusive = max e s }

pub returns : goal.returns
returns c =
    let least = c.args.synopsis.least in
    let most = most_of c.args.synopsis in
    let rule_is : rule_of c.action-operands.result ≡ operands_rule least (max most least) =
    operands_rule_is c.new.result c.required.result c.num_args.result c.action-operands.result
    (range_of c.new-2.result.start c.new-2.result.end) _ least (max most least)
    c.new.ensures.rule c.required.ensures (search rules) c.num_args.ensures.0 c.num_args.ensures.1
    (ap₂ range_of c.new-2.ensures.start (c.new-2.ensures.end ∙ c.unwrap_or-most.ensures)) c.action-operands.ensures in
    let shape_is : app_of c.in_ok-command.command ≡ with_rule bare (operands_rule least (max most least)) =
    c.in_ok-command.ensures.shape (search rules) ∙ ap₂ with_rule c.bare.ensures.shape rule_is in
    subst (λ a. IfOk c.with_option.result (λ r. IsForm r (with_option c.args.synopsis.option a))) shape_is
    c.with_option.ensures
