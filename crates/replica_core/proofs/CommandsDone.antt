-- What a command comes to, by how its call ended.
use Rattle.std.proofs.Common.{◌≡◌, [], ◌∷◌, Option, None, Some, Ok, Err, refl, sym, ap}
use Rattle.std.specs.Prelude.{option_to_list}
use Rattle.conflicts.specs.State.{State, Step, after_all}
use Rattle.replica_core.specs.Replica.{after_step}
use Rattle.conflicts.specs.Writing.{Answers, Decided, IsAnswer, IsRefusal, Refuses, step_in}
use Rattle.replica_core.specs.Commands.Effects.{Line, Refusal, calls}

-- the call answered: the decided step is made, if there is one, and the line of the answer is printed
pub done : {A F : Type 0} (line : A → Line) (refusal : F → Refusal) (decided : Decided A F) (answer : A)
    → IsAnswer decided answer →
    calls line refusal decided ≡ Ok (record { steps = option_to_list (step_in decided); lines = line answer ∷ [] })
done line refusal (Refuses fault) answer is = absurd is
done line refusal (Answers given step) answer is =
    ap (λ a. Ok (record { steps = option_to_list step; lines = line a ∷ [] })) (sym is)

-- the call refused
pub refused : {A F : Type 0} (line : A → Line) (refusal : F → Refusal) (decided : Decided A F) (fault : F)
    → IsRefusal decided fault →
    calls line refusal decided ≡ Err (refusal fault)
refused line refusal (Refuses given) fault is = ap (λ f. Err (refusal f)) (sym is)
refused line refusal (Answers answer step) fault is = absurd is

-- the state after the call's step is the one after the steps of the command
pub after_effect : (s : State) (x : Option Step) → after_step s x ≡ after_all s (option_to_list x)
after_effect s None = refl
after_effect s (Some y) = refl
