-- The index that is lent is the one of the name.
use Rattle.std.proofs.Common.{◌∙◌, ap, sym, List, Option, Some}
use Rattle.std.specs.Option.{option_map}
use Rattle.conflicts.specs.State.{Text}
use Rattle.replica_state.specs.Exprs.{IndexTexts}
use Rattle.conflicts.specs.Writing.{same_exprs}
use Rattle.replica_core.proofs.calls.indexes.is_alike.Goals as goal

pub returns-in-Some-clause-value : goal.returns-in-Some-clause-value
returns-in-Some-clause-value c =
    ap Some c.have_same_texts.ensures
    ∙ ap (λ (t : IndexTexts). Some (same_exprs t.texts c.args.exprs.now.texts)) c.exprs.ensures
    ∙ sym (ap (λ (o : Option (List Text)). option_map (λ kept. same_exprs kept c.args.exprs.now.texts) o)
    c.in-Some.ensures.0)

pub returns-in-None-clause-value : goal.returns-in-None-clause-value
returns-in-None-clause-value c =
    sym (ap (λ (o : Option (List Text)). option_map (λ kept. same_exprs kept c.args.exprs.now.texts) o)
    c.in-None.ensures)
