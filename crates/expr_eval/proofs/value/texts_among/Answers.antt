use Rattle.std.proofs.Common.{◌≡◌, ◌+◌, [], ◌∷◌, ◌++◌, take, sym, ap, ◌∙◌}
use Rattle.std.proofs.lemmas.List.{take_more}
use Rattle.std.proofs.lemmas.List.Elements.{filter_map-append}
use Rattle.expr_eval.specs.declared.value.Value.{Value}
use Rattle.expr_eval.specs.Kinds.{text_of, texts_in}
use Rattle.expr_eval.proofs.value.texts_among.Goals as goal

pub loop-value-preserved : goal.loop-value-preserved
loop-value-preserved c =
    let values = c.args.values.now in
    let i = c.loop-value.value-index in
    let value = c.value-item.result in
    let more : take (i + 1) values ≡ take i values ++ value ∷ [] =
    take_more values i value c.loop-value-test.true
    ∙ ap (λ (v : Value). take i values ++ v ∷ []) (sym c.value-item.is) in
    c.in_ok-add_text.ensures ∙ (ap (λ l. l ++ texts_in (value ∷ [])) c.loop-value.invariant
    ∙ sym (ap texts_in more ∙ filter_map-append text_of (take i values) (value ∷ [])))
