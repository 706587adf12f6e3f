-- What a link in memory is doing. Only private clauses speak of it.
use Rattle.std.specs.Prelude.{◌≡◌, ℕ, ◌≤◌, min, List, length, take, drop, Option, Some, None}
use Rattle.sync_link.specs.declared.asking.Phase.{Phase}
use Rattle.sync_link.specs.declared.asking.Phase.TheVariants as phase
use Rattle.sync_link.specs.declared.doing.Doing.{Doing}
use Rattle.sync_link.specs.declared.doing.Doing.TheVariants.{Idle, Sending, Receiving}

abbrev pub phase_of : Doing → Phase
phase_of Idle = phase.Idle
phase_of Sending = phase.Sending
phase_of (Receiving rest) = phase.Receiving

-- what is to come of a reply
abbrev pub coming_of : Doing → Option (List ℕ)
coming_of Idle = None
coming_of Sending = None
coming_of (Receiving rest) = Some rest

-- of these bytes the first n were given, at most so many: they stand at the front of the room
pub record GivesFront (most : ℕ) (before after old new : List ℕ) (n : ℕ) : Type 0 where
  pub amount : n ≡ min (length before) most
  pub some : 1 ≤ n
  pub gone : after ≡ drop n before
  pub front : take n new ≡ take n before
  pub behind : drop n new ≡ drop n old
