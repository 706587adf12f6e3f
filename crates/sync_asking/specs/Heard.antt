-- What the first bytes of a reply come to: its head, or why there is none; and what a reply with a small body comes to.
use Rattle.std.specs.Prelude.{◌≡◌, ◌⊎◌, ℕ, List, Some, Result, Ok, Err}
use Rattle.sync_http.specs.Hearing.{HearsReply, IsReplyFault}
use Rattle.sync_http.specs.declared.fault.WireFault.{WireFault}
use Rattle.sync_http.specs.declared.heads.Heard.TheVariants.{NotYet}
use Rattle.sync_link.specs.declared.asking.AskFault.{AskFault}
use Rattle.sync_link.specs.declared.asking.AskFault.TheVariants as ask
use Rattle.sync_stream.specs.Messages.{HeardReply, ReadsReply, Small, small_of}
use Rattle.sync_phases.specs.Phases.{small_heard}
use Rattle.sync_phases.specs.declared.fault.SyncFault.{SyncFault}
use Rattle.sync_phases.specs.declared.fault.SyncFault.TheVariants.{Link, Peer, Broken, LogCheck, Full, Disk, Memory}

-- a failure of a link as a fault of a session
abbrev pub ask_ends : AskFault → SyncFault
ask_ends ask.Failed = Link
ask_ends ask.Memory = Memory

-- why these bytes have no head: they end within it, they have a fault, or memory ran out
abbrev pub HasNoHead : List ℕ → SyncFault → Type 0
HasNoHead bytes Link = HearsReply bytes (Ok NotYet)
HasNoHead bytes (Peer status) = ⊥
HasNoHead bytes (Broken n) = (n ≡ 0) × (fault : WireFault) × HearsReply bytes (Err fault) × IsReplyFault fault
HasNoHead bytes (LogCheck mine theirs) = ⊥
HasNoHead bytes (Full need limit) = ⊥
HasNoHead bytes Disk = ⊥
HasNoHead bytes Memory = Unit {0}

-- a small body, as its bytes
abbrev pub SaysBytes : List ℕ → ℕ → Small (List ℕ) → Type 0
SaysBytes bytes n small = small ≡ small_of Some n bytes

-- a reply with a small body comes to what the bytes say that were handed back, unless memory runs out
abbrev pub HearsSmall : List ℕ → Result (List ℕ) SyncFault → Type 0
HearsSmall given result =
    (result ≡ Err Memory)
    ⊎ ((heard : HeardReply (Small (List ℕ))) × ReadsReply SaysBytes given heard × (result ≡ small_heard heard))
