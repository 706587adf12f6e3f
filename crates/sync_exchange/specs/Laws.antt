-- What the calls are of the definition of serving.
use Rattle.std.specs.Prelude.{◌≡◌, ℕ, true, false, List, [], ◌∷◌, ◌++◌, option_to_list, Some}
use Rattle.u1_base.specs.Places.{Place}
use Rattle.vector_rev.specs.Counts.{Uid}
use Rattle.translog.specs.Log.{end_of, fits_log}
use Rattle.conflicts.specs.State.{State, Text, after_all}
use Rattle.conflicts.specs.Writing.{Decided, Refuses, Answers}
use Rattle.conflicts.specs.declared.receipts.Outcome4.{Outcome4}
use Rattle.sync_stream.specs.Came.{Ending}
use Rattle.sync_stream.specs.Messages.{AskInfo, Says, Tell}
use Rattle.sync_stream.specs.Replies.{Keeps, LogCheck, Returns, Tells}
use Rattle.sync_stream.specs.Serving.{Held, Response, asked, exchange, exchanged, held_after, info_of, passing, refused}
use Rattle.sync_stream.specs.Serving.{returned, sent}
use Rattle.sync_stream.specs.declared.line.SyncDoc.{SyncDoc}
use Rattle.sync_exchange.specs.Decide.{apply_decides, tell_decides}
use Rattle.sync_exchange.specs.Returned.{changes_for}
use Rattle.sync_exchange.specs.declared.fault.ExchangeFault.{ExchangeFault}

-- ---- the response, by what is decided

-- a place that is told
abbrev pub told_by : Decided (Unit {0}) ExchangeFault → Response
told_by (Refuses fault) = refused LogCheck
told_by (Answers answer step) = record { reply = Keeps; steps = option_to_list step; passed = [] }

-- a document: what follows it is served of the state after its step, and the source has what the outcome says
abbrev pub passed_by : State → Text → (State → List Held → Response) → Decided Outcome4 ExchangeFault → Response
passed_by s doc following (Refuses fault) = refused LogCheck
passed_by s doc following (Answers outcome step) =
    let now = after_all s (option_to_list step) in
    passing (option_to_list step) (following now (held_after outcome doc now))

-- ---- the cases

pub record CasesOfServing : Type 0 where
  -- `info` and `tell`
  pub info : (s : State) (seed : ℕ) (source : Uid)
      → asked s seed source AskInfo ≡ record { reply = Tells (info_of s source); steps = []; passed = [] }
  pub tell : (s : State) (seed : ℕ) (source : Uid) (at : Place)
      → asked s seed source (Tell (Says at)) ≡ told_by (tell_decides source at s)
  -- `check_known`: a place that does not fit ends the exchange, before any document
  pub fits : (s : State) (seed : ℕ) (source : Uid) (known : Place) (docs : List SyncDoc) (ending : Ending)
      → fits_log s.log known ≡ true
      → exchange s seed source (Some known) docs ending ≡ exchanged s seed source known [] docs ending
  pub misfit : (s : State) (seed : ℕ) (source : Uid) (known : Place) (docs : List SyncDoc) (ending : Ending)
      → fits_log s.log known ≡ false → exchange s seed source (Some known) docs ending ≡ refused LogCheck
  -- `apply_one`, and `returned` after the last document
  pub document : (s : State) (seed : ℕ) (source : Uid) (known : Place) (held : List Held) (doc : SyncDoc)
      (docs : List SyncDoc) (ending : Ending)
      → exchanged s seed source known held (doc ∷ docs) ending
      ≡ passed_by s doc.id (λ now more. exchanged now seed source known (held ++ more) docs ending)
      (apply_decides seed source doc s)
  pub returns : (s : State) (known : Place) (held : List Held)
      → returned s known held ≡ Returns (end_of s.log) (sent s (changes_for s known held))
