-- A run that nothing stops is done, or memory ran out.
use Rattle.std.proofs.Common.{◌≡◌, ◌⊎◌, ℕ, ◌<◌, ◌≤◌, List, [], ◌∷◌, length, refl, sym, ap, ◌∙◌, inl, inr, ⊎_elim}
use Rattle.std.specs.Prelude.{Bool, drop}
use Rattle.std.proofs.lemmas.Bool.{cases_lt}
use Rattle.std.proofs.lemmas.List.{drop_all}
use Rattle.cli_words.specs.declared.command.Command.{Command}
use Rattle.command_lines.specs.declared.outcome.Outcome.{Outcome}
use Rattle.command_lines.specs.Endings.{Ending, Finished, Answered, TooLong, DiskFailed, InputFailed, OutputFailed}
use Rattle.command_lines.specs.Endings.{LinkFailed, DoorFailed, OutOfMemory, ending_of}
use Rattle.command_lines.proofs.Endings.{IsOf, of_kind, other_kind}
use Rattle.command_lines.specs.declared.outcome.Outcome.TheVariants.{Done, Memory}
use Rattle.store_commands.specs.Answer.{Occasion, answer}
use Rattle.store_commands.specs.Changes.{Change}
use Rattle.store_commands.specs.Complete.{HasNoCause}
use Rattle.store_commands.specs.Deeds.{Answer}
use Rattle.store_commands.specs.Leaves.{Cause, Fit}
use Rattle.store_commands.specs.Run.{BreaksOff, IsAnswered, IsUnread, Runs, Seen}

-- there is no change behind all of them
none_behind : {x : Change} (changes : List Change) (n : ℕ) → length changes ≤ n → (rest : List Change)
    → drop n changes ≡ x ∷ rest → ⊥
none_behind {x} changes n high rest is =
    let none : ◌≡◌ {A = List Change} [] (x ∷ rest) = rw (drop_all n changes high) at is in cc none

module _ (o : Occasion) (a : Answer) (before after : Seen) (quiet : HasNoCause o before after) where
  abbrev IsEither : Outcome → Type 0
  IsEither outcome = (outcome ≡ Done) ⊎ (outcome ≡ Memory)

  -- another outcome is not the answer
  not_answered : (decided : Outcome) → ending_of decided ≡ Answered → a ≡ answer o → a.outcome ≡ decided → ⊥
  not_answered decided kind is same =
      let done : decided ≡ Done = sym same ∙ ap (λ (b : Answer). b.outcome) is ∙ quiet.done in
      other_kind decided Done Answered kind (λ h. cc h) done

  module _ (opened : Bool) (read : List ℕ) (stood reached : ℕ) where
    abbrev CauseOf : Outcome → Ending → Type 0
    CauseOf = Cause o.found opened a (IsUnread o before.outside.input after.outside.input) stood reached before.store
        after.store

    -- with the answer
    by_answer : (decided : Outcome) (kind : Ending) → ending_of decided ≡ kind → IsOf kind decided → a ≡ answer o
        → Fit o.found a.changes (length a.changes)
        → stood < length a.changes ⊎ length a.changes ≤ stood
        → CauseOf decided kind → IsEither decided
    by_answer decided Finished kind of is fits low cause = inl of
    by_answer decided Answered kind of is fits low cause = absurd (not_answered decided kind is cause.0)
    by_answer decided (TooLong need limit) kind of is fits (inl low) cause = absurd (fits stood need limit low cause)
    by_answer decided (TooLong need limit) kind of is fits (inr high) cause =
        absurd (none_behind a.changes stood high cause.1 cause.2)
    by_answer decided DiskFailed kind of is fits low cause = absurd (quiet.disk cause)
    by_answer decided InputFailed kind of is fits low cause = absurd (quiet.input cause.0.2)
    by_answer decided OutputFailed kind of is fits low cause = absurd cause
    by_answer decided LinkFailed kind of is fits low cause = absurd cause
    by_answer decided DoorFailed kind of is fits low cause = absurd cause
    by_answer decided OutOfMemory kind of is fits low cause = inr of

    -- or without one
    by_none : (decided : Outcome) (kind : Ending) → IsOf kind decided → BreaksOff kind → CauseOf decided kind
        → IsEither decided
    by_none decided DiskFailed of broke cause = absurd (quiet.disk cause)
    by_none decided OutOfMemory of broke cause = inr of
    by_none decided Finished of broke cause = absurd broke
    by_none decided Answered of broke cause = absurd broke
    by_none decided (TooLong need limit) of broke cause = absurd broke
    by_none decided InputFailed of broke cause = absurd broke
    by_none decided OutputFailed of broke cause = absurd broke
    by_none decided LinkFailed of broke cause = absurd broke
    by_none decided DoorFailed of broke cause = absurd broke

    decided_done : (decided : Outcome) → IsAnswered o opened read a decided
        → CauseOf decided (ending_of decided) → IsEither decided
    decided_done decided (inl whole) cause =
        by_answer decided (ending_of decided) refl (of_kind decided) whole.is (rw whole.is quiet.fits)
        (cases_lt stood (length a.changes)) cause
    decided_done decided (inr broke) cause =
        by_none decided (ending_of decided) (of_kind decided) broke.broke cause

pub run_done : (command : Command) (seed : ℕ) (before after : Seen) (result : Outcome)
    (runs : Runs command seed before after result)
    → HasNoCause runs.decides.o before after → (result ≡ Done) ⊎ (result ≡ Memory)
run_done command seed before after result runs quiet =
    let d = runs.decides in
    let either : (runs.decided ≡ Done) ⊎ (runs.decided ≡ Memory) =
    decided_done d.o runs.a before after quiet d.opened d.read d.does.stood d.does.reached
    runs.decided d.answers d.does.leaves.cause in
    ⊎_elim
    (λ ended. ⊎_elim (λ done. inl (ended.0 ∙ done)) (λ memory. inr (ended.0 ∙ memory)) either)
    (λ broke. ⊎_elim (λ sink. absurd (quiet.output sink.2)) (λ starved. inr starved.0) broke)
    runs.prints
