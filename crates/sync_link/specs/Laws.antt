-- What holds of every peer that serves as it is defined.
use Rattle.std.specs.Prelude.{◌≡◌, ◌≢◌, ℕ, false, List, []}
use Rattle.u1_base.specs.Ids.{same_id}
use Rattle.link.specs.Streams.{IsFront}
use Rattle.conflicts.specs.State.{State}
use Rattle.sync_http.specs.declared.fault.WireFault.{WireFault}
use Rattle.sync_stream.specs.Messages.{Purpose, ReadsReply, Request, EndsEarly, Refused, Asks, SaysInfo, Status}
use Rattle.sync_stream.specs.Replies.{StoreFailed, StoreFull, refusal_status}
use Rattle.sync_stream.specs.Serving.{AnyStop, OnlyMemory, serve}
use Rattle.sync_link.specs.Serving.{ServesAsDefined, StopsAsDefined}

-- what a served request leaves, a stop within it may leave too: so a link may lose the reply. And what a stop within a
-- front of a request leaves, one within the whole request may leave: so a link may cut it
pub record RepliesMayBeLost : Type 0 where
  pub lost : (seed : ℕ) (p : State) (sent reply : List ℕ) (q : State)
      → ServesAsDefined AnyStop seed p sent reply q → StopsAsDefined seed p sent q
  pub cut : (seed : ℕ) (p : State) (front sent : List ℕ) (q : State) → IsFront front sent
      → StopsAsDefined seed p front q → StopsAsDefined seed p sent q

-- where nothing but want of memory may stop a peer, the status that is heard of its reply, or of a front of it, is
-- neither that of a full store nor that of a failed one, whatever was asked
abbrev pub MemoryNeverRefuses : Type 0
MemoryNeverRefuses =
    (seed : ℕ) (p : State) (sent reply : List ℕ) (q : State) (given : List ℕ) (status : ℕ)
    → ServesAsDefined OnlyMemory seed p sent reply q → IsFront given reply
    → ReadsReply SaysInfo given (Status status)
    → (status ≢ refusal_status StoreFull) × (status ≢ refusal_status StoreFailed)

-- the request asks for no step
abbrev pub AsksNoStep : State → ℕ → Request → Type 0
AsksNoStep p seed request = (serve p seed request).steps ≡ []

-- a request that asks for no step leaves the peer as it was, whether it is served or not
pub record RefusalsLeave : Type 0 where
  pub served : (seed : ℕ) (p : State) (sent reply : List ℕ) (q : State)
      (s : ServesAsDefined AnyStop seed p sent reply q)
      → AsksNoStep p seed s.serves.request → q ≡ p
  pub stopped : (seed : ℕ) (p : State) (sent : List ℕ) (q : State) (s : StopsAsDefined seed p sent q)
      → AsksNoStep p seed s.request → q ≡ p
  -- such are a request that ends within its head, one whose head has a fault, and one for another database
  pub early : (seed : ℕ) (p : State) → AsksNoStep p seed EndsEarly
  pub faulty : (seed : ℕ) (p : State) (fault : WireFault) → AsksNoStep p seed (Refused fault)
  pub elsewhere : (seed : ℕ) (p : State) (db source : List ℕ) (purpose : Purpose) → same_id p.name db ≡ false
      → AsksNoStep p seed (Asks db source purpose)
