-- What holds of all messages: what is written is read as itself.
use Rattle.std.specs.Prelude.{◌≡◌, ◌⊎◌, ℕ, ◌^◌, ◌<◌, ◌≤◌, true, Bool, List, ◌++◌, length, Some, IsSome, Result, Ok, Err}
use Rattle.std.specs.List.{list_all}
use Rattle.http.specs.StatusCode.{IsStatusCode, reason_phrase}
use Rattle.httparse.specs.Grammar.{is_value_byte, print_request, print_response}
use Rattle.u1_base.specs.Ids.{IsId}
use Rattle.u1_base.specs.Places.{Place}
use Rattle.u1_base.specs.declared.limits.TheConstants.{GREATEST_COUNT}
use Rattle.u1_base.specs.declared.ids.Form.TheVariants.{Name, Replica}
use Rattle.sync_http.specs.Positions.{IsPosition}
use Rattle.sync_http.specs.Bodies.{IsInfo, told_in, told_text, info_in, info_text}
use Rattle.sync_http.specs.Hearing.{heard, most_bytes, HearsRequest, HearsReply, Said, SaysRequest, SaysReply}
use Rattle.sync_http.specs.Written.{request_written, reply_written}
use Rattle.sync_http.specs.declared.address.Address.{Address}
use Rattle.sync_http.specs.declared.fault.WireFault.{WireFault}
use Rattle.sync_http.specs.declared.fault.WireFault.TheVariants.{Memory}
use Rattle.sync_http.specs.declared.heads.Heard.{Heard}
use Rattle.sync_http.specs.declared.heads.Verb.TheVariants.{Get}
use Rattle.sync_http.specs.declared.heads.RequestHead.{RequestHead}
use Rattle.sync_http.specs.declared.heads.ReplyHead.{ReplyHead}
use Rattle.sync_http.specs.declared.info.Info.{Info}

-- ---- heads

-- the request may be written: its parts are ids, the host has no control byte, and the head is not too long
pub record CanAsk (to : Address) (head : RequestHead) : Type 0 where
  pub db : IsId Name head.db
  pub source : IsId Replica head.source
  pub host : list_all is_value_byte to.host ≡ true
  pub port : to.port < 2 ^ 16
  pub body : head.body ≤ GREATEST_COUNT
  pub none : head.verb ≡ Get → head.body ≡ 0
  pub short : length (print_request (request_written to head)) ≤ most_bytes

-- the reply may be written: `http` has a phrase for its status
pub record CanReply (head : ReplyHead) : Type 0 where
  pub status : IsStatusCode head.status
  pub phrase : IsSome (reason_phrase head.status)
  pub body : head.body ≤ GREATEST_COUNT

-- the bytes of a head that was written begin with it and no other, whatever follows
pub record HeadsReadBack : Type 0 where
  pub request : (to : Address) (head : RequestHead) (more : List ℕ) → CanAsk to head
      → SaysRequest (print_request (request_written to head) ++ more) (Ok head)
      (length (print_request (request_written to head)))
  pub reply : (head : ReplyHead) (stream : Bool) (more : List ℕ) → CanReply head
      → SaysReply (print_response (reply_written head stream) ++ more) (Ok head)
      (length (print_response (reply_written head stream)))

-- what a whole head says it says whatever bytes follow, and bytes that begin with one are heard as that one, unless
-- memory runs out
pub record HeadsGoOn : Type 0 where
  pub request : (bytes more : List ℕ) (said : Said RequestHead) (n : ℕ) → SaysRequest bytes said n
      → SaysRequest (bytes ++ more) said n
  pub reply : (bytes more : List ℕ) (said : Said ReplyHead) (n : ℕ) → SaysReply bytes said n
      → SaysReply (bytes ++ more) said n
  pub one_request : (bytes : List ℕ) (head : RequestHead) (n : ℕ) (answer : Result (Heard RequestHead) WireFault)
      → SaysRequest bytes (Ok head) n → HearsRequest bytes answer
      → (answer ≡ heard (Ok head) n) ⊎ (answer ≡ Err Memory)
  pub one_reply : (bytes : List ℕ) (head : ReplyHead) (n : ℕ) (answer : Result (Heard ReplyHead) WireFault)
      → SaysReply bytes (Ok head) n → HearsReply bytes answer
      → (answer ≡ heard (Ok head) n) ⊎ (answer ≡ Err Memory)

-- ---- bodies

-- a told position, and what a target says
pub record BodiesReadBack : Type 0 where
  pub told : (p : Place) → IsPosition p → told_in (told_text p) ≡ Some p
  pub info : (info : Info) → IsInfo info → info_in (info_text info) ≡ Some info
