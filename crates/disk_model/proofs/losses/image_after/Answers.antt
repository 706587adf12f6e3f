-- What was before the last sync is lost in no choice.
use Rattle.std.proofs.Common.{◌≡◌, ℕ, ◌-◌, List, length, take, drop, length-drop, sym, ◌∙◌, ap}
use Rattle.std.proofs.Math.Seq.{take-length}
use Rattle.disk_model.specs.Losses.{left_of}
use Rattle.disk_model.specs.declared.calls.Call.{Call}
use Rattle.disk_model.proofs.losses.image_after.Goals as goal

-- the rest of a list, as a slice gives it
rest : (calls : List Call) (n : ℕ) → take (length calls - n) (drop n calls) ≡ drop n calls
rest calls n = ap (λ (k : ℕ). take k (drop n calls)) (sym (length-drop n calls)) ∙ take-length (drop n calls)

pub returns-clause-by_choice : goal.returns-clause-by_choice
returns-clause-by_choice c =
    let calls = c.args.calls.now in let file = c.args.file.now in let choice = c.args.choice in
    c.from_vec.ensures
    ∙ c.in_ok-lose_all.ensures.by_choice
    ∙ ap (λ (l : List Call). left_of choice l file) (rest calls c.settled_calls.result)
    ∙ sym (c.settled_calls.ensures.left file choice)
