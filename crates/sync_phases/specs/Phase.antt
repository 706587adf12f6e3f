-- A phase of a session: the steps that it makes, and what it comes to.
use Rattle.std.specs.Prelude.{List, [], ◌++◌, option_to_list, Result, Ok, Err}
use Rattle.conflicts.specs.State.{State, Step, after_all}
use Rattle.conflicts.specs.Writing.{Decided, Answers, Refuses}
use Rattle.sync_phases.specs.declared.fault.SyncFault.{SyncFault}

-- the steps, in order, and then its answer, or why the session ends there
pub record Phase (A : Type 0) : Type 0 where
  pub steps : List Step
  pub ends : Result A SyncFault

-- a phase that makes no step
abbrev pub ended : {A : Type 0} → Result A SyncFault → Phase A
ended ends = record { steps = []; ends = ends }

-- these steps, and then those of a phase
abbrev pub first : {A : Type 0} → List Step → Phase A → Phase A
first made later = record { steps = made ++ later.steps; ends = later.ends }

-- an answer leads on; a fault stays
abbrev pub and_then : {A B : Type 0} → Result A SyncFault → (A → Result B SyncFault) → Result B SyncFault
and_then (Ok x) more = more x
and_then (Err fault) more = Err fault

abbrev pub answering : {A B : Type 0} → Phase A → (A → Result B SyncFault) → Phase B
answering p more = record { steps = p.steps; ends = and_then p.ends more }

abbrev pub leads_to : {A B : Type 0} → Result A SyncFault → (A → Phase B) → Phase B
leads_to (Ok x) more = more x
leads_to (Err fault) more = ended (Err fault)

-- one phase after another, over the state that the first one leaves, where nothing comes between them
abbrev pub followed : {A B : Type 0} → State → Phase A → (State → A → Phase B) → Phase B
followed s p more = first p.steps (leads_to p.ends (more (after_all s p.steps)))

-- a refusal ends the session; else the step that is decided comes before what follows
abbrev pub unless_refused : {A B : Type 0} → Decided B SyncFault → Phase A → Phase A
unless_refused (Refuses fault) later = ended (Err fault)
unless_refused (Answers answer step) later = first (option_to_list step) later
