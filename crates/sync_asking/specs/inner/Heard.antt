-- Beside specs/Heard: words of private contracts and of proofs.
use Rattle.std.specs.Prelude.{◌≡◌, ◌≢◌, ℕ, ◌+◌, ◌≤◌, List, length, Option, Some, None, Result, Ok, Err}
use Rattle.sync_http.specs.Hearing.{HearsReply, SaysReply}
use Rattle.sync_http.specs.declared.heads.Heard.{Heard}
use Rattle.sync_http.specs.declared.heads.Heard.TheVariants.{Head, NotYet}
use Rattle.sync_http.specs.declared.heads.ReplyHead.{ReplyHead}
use Rattle.u1_base.specs.declared.limits.TheConstants.{MOST_HEAD_BYTES, MOST_POSITION_BODY_BYTES}
use Rattle.sync_asking.specs.declared.heads.Found.{Found}
use Rattle.sync_phases.specs.declared.fault.SyncFault.{SyncFault}
use Rattle.sync_phases.specs.declared.fault.SyncFault.TheVariants.{Link}
use Rattle.sync_asking.specs.Heard.{HasNoHead}

abbrev pub found_of : Heard ReplyHead → Option Found
found_of NotYet = None
found_of (Head head n) = Some (record { head = head; length = n })

-- the bytes have this head, or none yet, or never will
abbrev pub SaysHead : List ℕ → Result (Option Found) SyncFault → Type 0
SaysHead bytes (Ok None) = HearsReply bytes (Ok NotYet)
SaysHead bytes (Ok (Some found)) = SaysReply bytes (Ok found.head) found.length
SaysHead bytes (Err fault) = HasNoHead bytes fault × (fault ≢ Link)

-- the bytes have a head of status 200, and the whole of its body, which is small
pub record HasBody (bytes : List ℕ) (found : Found) : Type 0 where
  pub says : SaysReply bytes (Ok found.head) found.length
  pub status : found.head.status ≡ 200
  pub within : found.length ≤ MOST_HEAD_BYTES
  pub small : found.head.body ≤ MOST_POSITION_BODY_BYTES
  pub whole : found.length + found.head.body ≤ length bytes
