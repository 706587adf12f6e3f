-- What the first bytes of a connection are.
use Rattle.std.specs.Prelude.{◌≡◌, ℕ, ◌<◌, ◌≤◌, ◌⊎◌, List, length, take, Result, Ok, Err}
use Rattle.httparse.specs.Grammar as grammar
use Rattle.httparse.specs.Spans.{RequestExceeds, ResponseExceeds}
use Rattle.u1_base.specs.declared.limits.TheConstants.{MOST_HEAD_BYTES, MOST_HEADERS}
use Rattle.sync_http.specs.Heads.{request_of, reply_of}
use Rattle.sync_http.specs.declared.heads.Heard.{Heard}
use Rattle.sync_http.specs.declared.heads.Heard.TheVariants.{NotYet, Head}
use Rattle.sync_http.specs.declared.heads.RequestHead.{RequestHead}
use Rattle.sync_http.specs.declared.heads.ReplyHead.{ReplyHead}
use Rattle.sync_http.specs.declared.fault.WireFault.{WireFault}
use Rattle.sync_http.specs.declared.fault.WireFault.TheVariants.{TooLarge, BadHead, BadPath, BadMethod, Chunked}
use Rattle.sync_http.specs.declared.fault.WireFault.TheVariants.{NoLength, Memory}

-- the value that a whole head says, or why it says none
abbrev pub Said : Type 0 → Type 0
Said T = Result T WireFault

-- the longest head, in bytes, and the most fields
abbrev pub most_bytes : ℕ
most_bytes = MOST_HEAD_BYTES

abbrev pub most_fields : ℕ
most_fields = MOST_HEADERS

-- the part of the bytes in which a head is looked for
abbrev pub front : List ℕ → List ℕ
front bytes = take most_bytes bytes

-- ---- requests

-- the bytes begin with a whole head that says this, and takes so many bytes
pub record SaysRequest (bytes : List ℕ) (said : Result RequestHead WireFault) (taken : ℕ) : Type 0 where
  pub head : grammar.RequestHead
  pub rest : List ℕ
  pub reads : grammar.ReadsRequest (front bytes) head rest
  pub few : length head.fields ≤ most_fields
  pub says : request_of head ≡ said
  pub length_is : length (grammar.print_request head) ≡ taken

-- the bytes hold no whole head, and more may make one of them
pub record IsOpenRequest (bytes : List ℕ) : Type 0 where
  pub none : grammar.HasNoRequest bytes
  pub may : grammar.MayBecomeRequest bytes

-- the bytes begin with no whole head of so few fields. No head can come of them, or it has too many
pub record IsNoRequest (bytes : List ℕ) : Type 0 where
  pub none : (h : grammar.RequestHead) (rest : List ℕ) → grammar.ReadsRequest bytes h rest
      → ¬ (length h.fields ≤ most_fields)
  pub never : grammar.NeverHasRequest bytes ⊎ RequestExceeds most_fields bytes

-- ---- replies

pub record SaysReply (bytes : List ℕ) (said : Result ReplyHead WireFault) (taken : ℕ) : Type 0 where
  pub head : grammar.ResponseHead
  pub rest : List ℕ
  pub reads : grammar.ReadsResponse (front bytes) head rest
  pub few : length head.fields ≤ most_fields
  pub says : reply_of head ≡ said
  pub length_is : length (grammar.print_response head) ≡ taken

pub record IsOpenReply (bytes : List ℕ) : Type 0 where
  pub none : grammar.HasNoResponse bytes
  pub may : grammar.MayBecomeResponse bytes

pub record IsNoReply (bytes : List ℕ) : Type 0 where
  pub none : (h : grammar.ResponseHead) (rest : List ℕ) → grammar.ReadsResponse bytes h rest
      → ¬ (length h.fields ≤ most_fields)
  pub never : grammar.NeverHasResponse bytes ⊎ ResponseExceeds most_fields bytes

-- ---- the answer

-- what is answered to a whole head that says this
abbrev pub heard : {T : Type 0} → Result T WireFault → ℕ → Result (Heard T) WireFault
heard (Ok head) n = Ok (Head head n)
heard (Err fault) n = Err fault

-- what is answered to bytes of which this is known: what a whole head at their front says (with its length), that it is
-- still open, or that there is none. The cases exclude each other, but in two places: where a target is still
-- unfinished, and where more fields came than may be without the end of the head. There it may be seen only later that
-- no head can come of the bytes
abbrev pub Hears : {T : Type 0} → (Result T WireFault → ℕ → Type 0) → (List ℕ → Type 0) → (List ℕ → Type 0) → List ℕ
    → Result (Heard T) WireFault → Type 0
Hears says is_open is_none bytes (Ok NotYet) = (length bytes < most_bytes) × is_open bytes
Hears says is_open is_none bytes (Ok (Head head n)) = says (Ok head) n
Hears says is_open is_none bytes (Err TooLarge) = (most_bytes ≤ length bytes) × is_open (front bytes)
Hears says is_open is_none bytes (Err BadHead) = is_none (front bytes) ⊎ ((n : ℕ) × says (Err BadHead) n)
Hears says is_open is_none bytes (Err BadPath) = (n : ℕ) × says (Err BadPath) n
Hears says is_open is_none bytes (Err BadMethod) = (n : ℕ) × says (Err BadMethod) n
Hears says is_open is_none bytes (Err Chunked) = (n : ℕ) × says (Err Chunked) n
Hears says is_open is_none bytes (Err NoLength) = (n : ℕ) × says (Err NoLength) n
Hears says is_open is_none bytes (Err Memory) = Unit {0}

abbrev pub HearsRequest : List ℕ → Result (Heard RequestHead) WireFault → Type 0
HearsRequest bytes = Hears (SaysRequest bytes) IsOpenRequest IsNoRequest bytes

abbrev pub HearsReply : List ℕ → Result (Heard ReplyHead) WireFault → Type 0
HearsReply bytes = Hears (SaysReply bytes) IsOpenReply IsNoReply bytes

-- a reply has no path and no method, and reading it takes no memory
abbrev pub IsReplyFault : WireFault → Type 0
IsReplyFault TooLarge = Unit {0}
IsReplyFault BadHead = Unit {0}
IsReplyFault BadPath = ⊥
IsReplyFault BadMethod = ⊥
IsReplyFault Chunked = Unit {0}
IsReplyFault NoLength = Unit {0}
IsReplyFault Memory = ⊥
