-- What serving one connection leaves of the replica, of what is read and of what is written.
use Rattle.std.specs.Prelude.{◌≡◌, ◌≢◌, ◌⊎◌, ℕ, ◌<◌, ◌≤◌, true, false, List, [], ◌∷◌, ◌++◌, length}
use Rattle.std.specs.Io.KnownBytes.{Appends, Consumes, IsAtEnd}
use Rattle.u1_base.specs.Causes.{Rose}
use Rattle.link.specs.Streams.{Input, Output}
use Rattle.conflicts.specs.State.{History, Step, after_all}
use Rattle.replica_core.specs.Replica.{AddsOnly, Found, Known, Stored, state_in, stored_in}
use Rattle.replica_core.specs.Runs.{StandsAfterFirst}
use Rattle.sync_stream.specs.Early.{BreaksOffBytes, ends_early}
use Rattle.sync_stream.specs.Lines.{GoOn}
use Rattle.sync_stream.specs.Replies.{BadRequest, Keeps, NoMemory, Refuses, Reply, Returns, StoreFailed, Tells}
use Rattle.sync_stream.specs.Replies.{is_stream, reply_status}
use Rattle.sync_stream.specs.Serving.{CausedBy, ServesBytes, Stop, serve}
use Rattle.sync_exchange.specs.declared.serve.ServeFault.{ServeFault}
use Rattle.sync_exchange.specs.declared.serve.ServeFault.TheVariants as fault
use Rattle.sync_exchange.specs.declared.serve.Served.{Served}

-- ---- the replica

-- what may stop it: the next step needs more than the limit behind those that were made, a disk failed, or memory ran
-- out
abbrev pub MayStop : Known → Known → History → Stop → Type 0
MayStop old new made = CausedBy (λ x. old.limit < old.need made x) (Rose old.faults new.faults)

-- each step that was made had room behind those before it
abbrev pub HadRoom : Known → History → Type 0
HadRoom old made = (before : History) (x : Step) (behind : History) → made ≡ before ++ x ∷ behind
    → old.need before x ≤ old.limit

module _ {R : Type 0} (known : R → Known) (is_open : R → Type 0) (crash : R → ℕ → Found Stored → Type 0) where
  -- the replica is open, or a disk failed and it is closed
  abbrev pub IsOpenOrFailed : R → R → Type 0
  IsOpenOrFailed old new = is_open new ⊎ (Rose (known old).faults (known new).faults × ((known new).opened ≡ false))

  -- these steps were made, and no others, of all that are asked for. A crash on the way leaves the state after some
  -- first ones of those that were reached, which are more than were made only where a disk failed
  pub record HasMade (old new : R) (made all : History) : Type 0 where
    pub reached : History
    pub more : GoOn made reached
    pub of_all : GoOn reached all
    pub state : state_in (known new) ≡ after_all (state_in (known old)) made
    pub room : HadRoom (known old) made
    pub left : IsOpenOrFailed old new
    pub settled : is_open new → reached ≡ made
    pub any_moment : AddsOnly known crash old new (StandsAfterFirst (stored_in (known old)) reached)
    pub limit : (known new).limit ≡ (known old).limit
    pub later : (known old).faults ≤ (known new).faults

  -- ---- the connection

  -- how many documents go back
  abbrev pub number_returned : Reply → ℕ
  number_returned (Tells info) = 0
  number_returned Keeps = 0
  number_returned (Returns at docs) = length docs
  number_returned (Refuses refusal) = 0

  module _ (seed : ℕ) (old new : R) (input input' : Input) (output output' : Output) where
    -- A reply to what was read was written whole, and these steps were made. Bytes beside those to which it is a reply
    -- were read only where memory ran out. A source that ends early has nothing left.
    pub record HasServed (answer : Served) : Type 0 where
      pub read : List ℕ
      pub unread : List ℕ
      pub written : List ℕ
      pub made : History
      pub serves : ServesBytes (MayStop (known old) (known new) made) (state_in (known old)) seed read written made
          answer.applied
      pub makes : HasMade old new made (serve (state_in (known old)) seed serves.request).steps
      -- only a failed store may have lost steps that were made
      pub kept : serves.reply ≢ Refuses StoreFailed → is_open new
      pub consumed : Consumes input.left input'.left (read ++ unread)
      pub exact : serves.reply ≢ Refuses NoMemory → unread ≡ []
      pub early : ends_early serves.request ≡ true → serves.reply ≡ Refuses BadRequest → IsAtEnd input'.left
      pub put : Appends output.taken output'.taken written
      pub handed_on : output'.held ≡ false
      pub status : answer.status ≡ reply_status serves.reply
      pub returned : answer.returned ≡ number_returned serves.reply

    -- the reply, of which a front was written, may have ended so
    abbrev pub MayBreak : ServeFault → List ℕ → Reply → Type 0
    MayBreak fault.Source written reply = written ≡ []
    MayBreak fault.Sink written reply = Unit {0}
    MayBreak fault.Memory written reply = (written ≡ []) ⊎ (is_stream reply ≡ true)

    -- it was broken off: there is a reply to what was read of which a front was written, perhaps nothing, and these steps
    -- were made
    pub record BreaksOff (why : ServeFault) : Type 0 where
      pub read : List ℕ
      pub unread : List ℕ
      pub written : List ℕ
      pub made : History
      pub breaks : BreaksOffBytes (MayStop (known old) (known new) made) (state_in (known old)) seed read written made
      pub makes : HasMade old new made (serve (state_in (known old)) seed breaks.request).steps
      pub kept : breaks.reply ≢ Refuses StoreFailed → is_open new
      pub consumed : Consumes input.left input'.left (read ++ unread)
      pub exact : why ≢ fault.Memory → breaks.reply ≢ Refuses NoMemory → unread ≡ []
      pub put : Appends output.taken output'.taken written
      pub may : MayBreak why written breaks.reply
