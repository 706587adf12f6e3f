-- One body more.
use Rattle.std.proofs.Common.{ℕ, List, ◌∷◌, [], ◌++◌, length, take, sym, ◌∙◌, ap, arith}
use Rattle.std.proofs.lemmas.List.{take_more}
use Rattle.journal.specs.Image.{entry, up_to_gate}
use Rattle.journal.proofs.Entries.{body_at, up_to_gate-push}
use Rattle.journal.proofs.spelling.image_in_bytes.Goals as goal

pub push_entry-requires : goal.push_entry-requires
push_entry-requires c =
    let body = c.body-item.result in
    let is = body_at c.args.bodies.now c.loop-body.body-index body body c.requires c.loop-body-test.true c.body-item.is
    in
    omega (arith, is.1, ap length c.as_slice.ensures)

pub loop-body-preserved : goal.loop-body-preserved
loop-body-preserved c =
    let bodies = c.args.bodies.now in let i = c.loop-body.body-index in let body = c.body-item.result
    in let head = c.args.header.now in
    c.in_ok-push_entry.ensures
    ∙ ap (λ (l : List ℕ). c.loop-body.out ++ entry l) c.as_slice.ensures
    ∙ ap (λ (l : List ℕ). l ++ entry body) c.loop-body.invariant
    ∙ sym (up_to_gate-push 2 head (take i bodies) body)
    ∙ ap (up_to_gate 2 head)
    (sym (take_more bodies i body c.loop-body-test.true
    ∙ ap (λ (b : List ℕ). take i bodies ++ b ∷ []) (sym c.body-item.is)))
