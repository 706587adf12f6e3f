-- A whole session: its phases one after the other, where nothing else changes the replica between them.
use Rattle.std.specs.Prelude.{List, [], ◌∷◌, option_to_list, Result, Ok, Err}
use Rattle.conflicts.specs.State.{State, after_all}
use Rattle.sync_http.specs.declared.info.Info.{Info}
use Rattle.sync_stream.specs.Messages.{HeardReply, Small, Stream}
use Rattle.sync_stream.specs.Requests.{Question, ForInfo}
use Rattle.sync_phases.specs.Phase.{Phase, ended, followed}
use Rattle.sync_phases.specs.Phases.{ask, exchange, finish, posted, settle, told_by}
use Rattle.sync_phases.specs.Seen.{Begun, Informed, Exchanged}
use Rattle.sync_phases.specs.declared.asked.Asked.{Asked}
use Rattle.sync_phases.specs.declared.asked.Asked.TheVariants.{Level, Send}
use Rattle.sync_phases.specs.declared.fault.SyncFault.{SyncFault}
use Rattle.sync_phases.specs.declared.summary.Summary.{Summary}

-- what came back to each question; of one that is not asked nothing is used
pub record Replies : Type 0 where
  pub info : HeardReply (Small Info)
  pub returned : HeardReply Stream
  pub kept : HeardReply (Small (Unit {0}))

-- an exchange, and the known place after it
abbrev pub settled : Informed → State → HeardReply Stream → Phase Exchanged
settled x s heard = followed s (exchange x s heard) (λ t y. settle y t)

abbrev pub if_sends : Replies → State → Asked Informed → Phase Summary
if_sends heard s (Level summary) = ended (Ok summary)
if_sends heard s (Send x) = followed s (settled x s heard.returned) (λ t y. finish y t heard.kept)

-- SYNCHRONISING: the steps and how it ends
abbrev pub sync : Begun → State → Replies → Phase Summary
sync x s heard = followed s (ask x s heard.info) (if_sends heard)

-- the questions in order: for the info; what is posted, unless the two are level; and that the target keeps a place. No
-- question follows a fault
abbrev pub told_if : State → Result Exchanged SyncFault → List Question
told_if s (Ok x) = option_to_list (told_by x s)
told_if s (Err fault) = []

abbrev pub asked_after : Replies → State → Result (Asked Informed) SyncFault → List Question
asked_after heard s (Ok (Level summary)) = []
asked_after heard s (Ok (Send x)) =
    let p = settled x s heard.returned in posted x s ∷ told_if (after_all s p.steps) p.ends
asked_after heard s (Err fault) = []

abbrev pub questions : Begun → State → Replies → List Question
questions x s heard = ForInfo ∷ asked_after heard s (ask x s heard.info).ends
