-- The expressions of an index that is built.
use Rattle.std.proofs.Common.{◌≡◌, ◌≤◌, List, length, Result, Ok, Err, true, false, refl}
use Rattle.std.specs.Prelude.{Bool, if◌then◌else◌, nat_le}
use Rattle.std.proofs.lemmas.Bool.{and_parts, leb-true}
use Rattle.cli_words.specs.declared.command.Edit.TheVariants as edit
use Rattle.conflicts.specs.State.{Text}
use Rattle.expr_parser.specs.Limits.{most_exprs}
use Rattle.command_lines.specs.declared.outcome.Outcome.{Outcome}
use Rattle.command_lines.specs.declared.outcome.Outcome.TheVariants.{Usage}
use Rattle.command_lines.specs.declared.outcome.UsageKind.TheVariants.{Words}
use Rattle.store_commands.specs.Answer.{built_edit, has_exprs}

if_ok : (b : Bool) → ◌≡◌ {A = Result (Unit {0}) Outcome} (if b then Ok tt else Err (Usage Words)) (Ok tt) → b ≡ true
if_ok true is = refl
if_ok false is = absurd (cc)

pub few_exprs : (name : Text) (exprs : List Text) → built_edit (edit.IndexCreate name exprs) ≡ Ok tt
    → (1 ≤ length exprs) × (length exprs ≤ most_exprs)
few_exprs name exprs is =
    let both = and_parts (nat_le 1 (length exprs)) (nat_le (length exprs) most_exprs) (if_ok (has_exprs exprs) is) in
    (leb-true _ _ both.0, leb-true _ _ both.1)
