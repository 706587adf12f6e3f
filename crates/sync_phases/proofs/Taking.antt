-- What is taken of a reply that came in part.
use Rattle.std.proofs.Common.{ℕ, ◌+◌, List, [], ◌∷◌, ◌++◌, refl, sym, ap, ◌∙◌, append_assoc, option_to_list}
use Rattle.vector_rev.specs.Counts.{Uid}
use Rattle.conflicts.specs.State.{State, after_all}
use Rattle.conflicts.specs.Writing.{Decided, Answers, Refuses, step_in}
use Rattle.conflicts.specs.declared.receipts.Taken.{Taken}
use Rattle.sync_stream.specs.Came.{Ending}
use Rattle.sync_stream.specs.Lines.{GoOn}
use Rattle.sync_stream.specs.declared.line.SyncDoc.{SyncDoc}
use Rattle.sync_phases.specs.Laws.{TakingGoesOn}
use Rattle.sync_phases.specs.Phase.{Phase, unless_refused}
use Rattle.sync_phases.specs.Phases.{counted_in, doc_decides, taken_from}
use Rattle.sync_phases.specs.declared.fault.SyncFault.{SyncFault}

-- a refusal ends both; a step comes before both
either : (decided : Decided Taken SyncFault) (p q : Phase ℕ) → GoOn p.steps q.steps
    → GoOn (unless_refused decided p).steps (unless_refused decided q).steps
either (Refuses fault) p q h = ([], refl)
either (Answers taken step) p q h = (
  h.0,
  ap (λ steps. option_to_list step ++ steps) h.1 ∙ sym (append_assoc (option_to_list step) p.steps h.0),
)

taken_goes_on : (seed : ℕ) (target : Uid) (s : State) (n : ℕ) (docs later : List SyncDoc) (e f : Ending)
    → GoOn (taken_from seed target s n docs e).steps (taken_from seed target s n (docs ++ later) f).steps
taken_goes_on seed target s n [] later e f = (_, refl)
taken_goes_on seed target s n (doc ∷ docs) later e f =
    let decided = doc_decides seed target doc s in
    let after = after_all s (option_to_list (step_in decided)) in
    let m = n + counted_in decided in
    either decided (taken_from seed target after m docs e) (taken_from seed target after m (docs ++ later) f)
    (taken_goes_on seed target after m docs later e f)

pub goes_on : TakingGoesOn
goes_on x s h k docs later e f = taken_goes_on x.seed x.target s 0 docs later e f
