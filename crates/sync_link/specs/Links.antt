-- What a contract knows of a link at a moment, and what each call makes of that.
use Rattle.std.specs.Prelude.{◌≡◌, ◌⊎◌, ℕ, ◌≤◌, List, [], ◌++◌, length, take, drop, Option, Some, None, IsSomeAnd}
use Rattle.std.specs.Prelude.{Result, Ok, Err}
use Rattle.std.specs.Option.{option_map, option_to_list, unwrap_or}
use Rattle.std.specs.Io.KnownBytes.{Consumes}
use Rattle.conflicts.specs.State.{State}
use Rattle.sync_http.specs.declared.address.Address.{Address}
use Rattle.sync_link.specs.declared.asking.AskFault.{AskFault}
use Rattle.sync_link.specs.declared.asking.AskFault.TheVariants.{Failed, Memory}
use Rattle.sync_link.specs.declared.asking.Phase.{Phase}
use Rattle.sync_link.specs.declared.asking.Phase.TheVariants.{Idle, Sending, Receiving}

-- an ask: to whom it goes, the bytes of its request that were handed on, and those of its reply that were handed back
pub record Ask : Type 0 where
  pub to : Address
  pub sent : List ℕ
  pub given : List ℕ

-- the asks that were carried: those before the last one, in order, and the last one
pub record CarriedAsks : Type 0 where
  pub earlier : List Ask
  pub last : Option Ask

-- all of them, in order
abbrev pub carried : CarriedAsks → List Ask
carried asks = asks.earlier ++ option_to_list asks.last

pub record LinkKnown : Type 0 where
  -- the asks before the last one, in order, and the last one
  pub earlier : List Ask
  pub ask : Option Ask
  pub phase : Phase
  -- the bytes of the reply that are still to come, where told
  pub coming : Option (List ℕ)
  -- the state of the peer, where told, and the seed of the ids that it makes
  pub peer : Option State
  pub seed : ℕ
  -- how many calls failed
  pub faults : ℕ

-- all asks, in order
abbrev pub asks : LinkKnown → List Ask
asks k = k.earlier ++ option_to_list k.ask

-- what the last ask sent
abbrev pub last_sent : LinkKnown → List ℕ
last_sent k = unwrap_or (option_map (λ (ask : Ask). ask.sent) k.ask) []

-- ---- what calls make of it

-- one ask more, of which nothing is sent and nothing given
abbrev pub begun : Address → LinkKnown → LinkKnown
begun to k = record k {
  earlier = asks k;
  ask = Some (record { to = to; sent = []; given = [] });
  phase = Sending;
  coming = None;
}

-- the last ask sent this too
abbrev pub and_sent : List ℕ → Option Ask → Option Ask
and_sent piece ask = option_map (λ (a : Ask). record a { sent = a.sent ++ piece }) ask

abbrev pub sent_more : List ℕ → LinkKnown → LinkKnown
sent_more piece k = record k { ask = and_sent piece k.ask }

-- the request is whole; this reply is to come, and the peer is now in this state, as far as told
abbrev pub awaits : Option (List ℕ) → Option State → LinkKnown → LinkKnown
awaits coming peer k = record k { phase = Receiving; coming = coming; peer = peer }

-- the last ask was given these bytes too, and they are gone from those to come
abbrev pub and_given : List ℕ → Option Ask → Option Ask
and_given bytes ask = option_map (λ (a : Ask). record a { given = a.given ++ bytes }) ask

abbrev pub given_more : List ℕ → LinkKnown → LinkKnown
given_more bytes k = record k {
  ask = and_given bytes k.ask;
  coming = option_map (λ coming. drop (length bytes) coming) k.coming;
}

-- no ask is under way any more, and so many calls failed
abbrev pub gave_up : ℕ → LinkKnown → LinkKnown
gave_up faults k = record k { phase = Idle; coming = None; faults = faults }

-- ---- the answers

-- an ask is begun; where the link failed it stands among the asks too, where memory ran out it does not
abbrev pub Begins : {T : Type 0} → Address → LinkKnown → LinkKnown → Result T AskFault → Type 0
Begins to before after (Ok done) = after ≡ begun to before
Begins to before after (Err Failed) = after ≡ gave_up after.faults (begun to before)
Begins to before after (Err Memory) = after ≡ gave_up after.faults before

-- the piece is sent, or a front of it
abbrev pub Sends : {T : Type 0} → List ℕ → LinkKnown → LinkKnown → Result T AskFault → Type 0
Sends piece before after (Ok done) = after ≡ sent_more piece before
Sends piece before after (Err fault) = (k : ℕ) × (after ≡ gave_up after.faults (sent_more (take k piece) before))

-- the request is whole and its reply is to come, or the ask is given up
abbrev pub Finishes : {T : Type 0} → LinkKnown → LinkKnown → Result T AskFault → Type 0
Finishes before after (Ok done) = after ≡ awaits after.coming after.peer before
Finishes before after (Err fault) = after ≡ gave_up after.faults (record before { peer = after.peer })

-- the peer is told both before and after, and the two states are so related; or it is told at neither time
abbrev pub BothTold : Option State → Option State → (State → State → Type 0) → Type 0
BothTold None None related = Unit {0}
BothTold None (Some after) related = ⊥
BothTold (Some before) None related = ⊥
BothTold (Some before) (Some after) related = related before after

-- a peer that is told has served the request by the reply to come, which is told then; where the ask is given up the
-- peer is as it was, or a stop within the request left it
abbrev pub PeerServes : {T : Type 0} → (ℕ → State → List ℕ → List ℕ → State → Type 0)
    → (ℕ → State → List ℕ → State → Type 0) → LinkKnown → LinkKnown → Result T AskFault → Type 0
PeerServes serves stops before after (Ok done) =
    BothTold before.peer after.peer
    (λ p q. IsSomeAnd after.coming (λ reply. serves before.seed p (last_sent before) reply q))
PeerServes serves stops before after (Err fault) =
    BothTold before.peer after.peer (λ p q. (q ≡ p) ⊎ stops before.seed p (last_sent before) q)

-- the next n bytes of the reply stand at the front of the room; after them the room is as it was
pub record GivesNext (before after : LinkKnown) (old new : List ℕ) (n : ℕ) : Type 0 where
  pub some : 1 ≤ n
  pub within : n ≤ length new
  pub given : after ≡ given_more (take n new) before
  pub next : Consumes before.coming after.coming (take n new)
  pub rest : drop n new ≡ drop n old

-- some bytes are given, or none and the ask is given up
abbrev pub Gives : LinkKnown → LinkKnown → List ℕ → List ℕ → Result ℕ AskFault → Type 0
Gives before after old new (Ok n) = GivesNext before after old new n
Gives before after old new (Err fault) = after ≡ gave_up after.faults before
