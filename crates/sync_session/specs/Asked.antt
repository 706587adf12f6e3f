-- What comes of an ask: what is defined for the reply that the bytes say which the link handed back.
use Rattle.std.specs.Prelude.{◌≡◌, ◌⊎◌, ℕ, List, Option, Some, None, Result, Err}
use Rattle.vector_rev.specs.Counts.{Uid}
use Rattle.conflicts.specs.State.{State}
use Rattle.sync_http.specs.declared.address.Address.{Address}
use Rattle.sync_link.specs.Links.{LinkKnown}
use Rattle.sync_stream.specs.Messages.{HeardReply, NoReply, ReadsReply, SaysKept}
use Rattle.sync_stream.specs.Requests.{Question, request_text}
use Rattle.sync_asking.specs.Carried.{Carries}
use Rattle.sync_phases.specs.Phases.{finished}
use Rattle.sync_phases.specs.Seen.{Exchanged}
use Rattle.sync_phases.specs.declared.fault.SyncFault.{SyncFault}
use Rattle.sync_phases.specs.declared.fault.SyncFault.TheVariants.{Memory}
use Rattle.sync_phases.specs.declared.summary.Summary.{Summary}

-- the bytes say a reply, to which it is defined to come so
abbrev pub ComesOf : {A B : Type 0} → (List ℕ → ℕ → A → Type 0) → (HeardReply A → Result B SyncFault) → List ℕ
    → Result B SyncFault → Type 0
ComesOf {A} says defined given result =
    (result ≡ Err Memory)
    ⊎ ((heard : HeardReply A) × ReadsReply says given heard × (result ≡ defined heard))

module _ (serves : ℕ → State → List ℕ → List ℕ → State → Type 0) (stops : ℕ → State → List ℕ → State → Type 0) where
  -- the question was asked, as far as the link carried it, and comes to what is defined
  abbrev pub Asks : {A B : Type 0} → LinkKnown → LinkKnown → Address → Uid → Question
      → (List ℕ → ℕ → A → Type 0) → (HeardReply A → Result B SyncFault) → Result B SyncFault → Type 0
  Asks before after to source question says defined result =
      (given : List ℕ) × Carries serves stops before after to (request_text to source question) given
      × ComesOf says defined given result

  -- the last question of a session, if there is one; else no link is used
  abbrev pub Finishes : LinkKnown → LinkKnown → Uid → Exchanged → Option Question → Result Summary SyncFault → Type 0
  Finishes before after source x None result = (after ≡ before) × (result ≡ finished x None NoReply)
  Finishes before after source x (Some question) result =
      Asks before after x.to source question SaysKept (finished x (Some question)) result
