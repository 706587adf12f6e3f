-- Links and doors in memory: what they hold, and where they fail.
use Rattle.std.specs.Prelude.{◌≡◌, ℕ, List, Option, Some, None, Result, Ok, Err, OnOk, OnErr}
use Rattle.link.specs.Memory.{Line, one_more}
use Rattle.sync_link.specs.Links.{Ask, LinkKnown}
use Rattle.sync_link.specs.Doors.{DoorKnown}
use Rattle.sync_link.specs.declared.asking.AskFault.{AskFault}
use Rattle.sync_link.specs.declared.asking.AskFault.TheVariants.{Failed, Memory}
use Rattle.sync_link.specs.declared.asking.Phase.{Phase}

-- ---- links

pub record Script : Type 0 where
  -- its asks, its phase and what is to come of the reply
  pub earlier : List Ask
  pub ask : Option Ask
  pub phase : Phase
  pub coming : Option (List ℕ)
  -- the replies for later asks, in order
  pub replies : List (List ℕ)
  -- the most bytes that one `receive` gives
  pub piece : ℕ
  -- the numbers of the asks that fail, and how many calls failed
  pub failing : List ℕ
  pub faults : ℕ

-- it tells all of itself, and no peer
abbrev pub link_known : Script → LinkKnown
link_known s = record {
  earlier = s.earlier;
  ask = s.ask;
  phase = s.phase;
  coming = s.coming;
  peer = None;
  seed = 0;
  faults = s.faults;
}

-- a fault is counted exactly where the link failed
abbrev pub counted : {T : Type 0} → ℕ → Result T AskFault → ℕ
counted n (Ok done) = n
counted n (Err Failed) = one_more n
counted n (Err Memory) = n

-- what a call leaves: the size of the pieces and the numbers of the asks that fail
pub record Counts {T : Type 0} (before after : Script) (result : Result T AskFault) : Type 0 where
  pub piece : after.piece ≡ before.piece
  pub failing : after.failing ≡ before.failing
  pub faults : after.faults ≡ counted before.faults result

-- ---- doors

pub record Queue : Type 0 where
  -- the connections to come, and those given back, each in order, and how many are out
  pub to_come : List Line
  pub given_back : List Line
  pub out : ℕ
  -- how many connections were asked for, which of these calls fail, and how many did
  pub calls : ℕ
  pub failing : List ℕ
  pub faults : ℕ

-- it tells all of itself
abbrev pub door_known : Queue → DoorKnown Line
door_known q = record { to_come = Some q.to_come; given_back = Some q.given_back; out = Some q.out; faults = q.faults }

-- a call is counted, the list of those that fail stays, and a fault is counted exactly where the call fails
pub record CountsCall {T E : Type 0} (before after : Queue) (result : Result T E) : Type 0 where
  pub called : after.calls ≡ one_more before.calls
  pub failing : after.failing ≡ before.failing
  pub faultless : OnOk result (after.faults ≡ before.faults)
  pub faulty : OnErr result (after.faults ≡ one_more before.faults)
