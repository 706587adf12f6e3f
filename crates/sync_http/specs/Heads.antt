-- What a whole head says: the value of a request or a reply, or why it is none.
use Rattle.std.specs.Prelude.{ℕ, Bool, true, false, ◌&&◌, if◌then◌else◌, List, map, codes, Option, Some, None}
use Rattle.std.specs.Prelude.{Result, Ok, Err}
use Rattle.std.specs.Str.{bytes_eq}
use Rattle.httparse.specs.Grammar as grammar
use Rattle.httparse.specs.Spans.{name_and_value}
use Rattle.u1_base.specs.Ids.{id_in}
use Rattle.u1_base.specs.declared.ids.Form.TheVariants.{Name, Replica}
use Rattle.sync_http.specs.Slashes.{part_of, rest_of, is_empty}
use Rattle.sync_http.specs.Fields.{Pair, content_length, is_encoded}
use Rattle.sync_http.specs.declared.target.Target.{Target}
use Rattle.sync_http.specs.declared.heads.Verb.{Verb}
use Rattle.sync_http.specs.declared.heads.Verb.TheVariants.{Get, Put, Post}
use Rattle.sync_http.specs.declared.heads.RequestHead.{RequestHead}
use Rattle.sync_http.specs.declared.heads.ReplyHead.{ReplyHead}
use Rattle.sync_http.specs.declared.fault.WireFault.{WireFault}
use Rattle.sync_http.specs.declared.fault.WireFault.TheVariants.{BadHead, BadPath, BadMethod, Chunked, NoLength}

-- ---- requests

abbrev pub target_with : Option (List ℕ) → Option (List ℕ) → Option Target
target_with None source = None
target_with (Some db) None = None
target_with (Some db) (Some source) = Some (record { db = db; source = source })

-- the target `/DATABASE/sync-from/UID`
abbrev pub target_in : List ℕ → Option Target
target_in text =
    let behind = rest_of text in
    if is_empty (part_of text) && bytes_eq (part_of (rest_of behind)) (codes "sync-from")
    then target_with (id_in Name (part_of behind)) (id_in Replica (rest_of (rest_of behind)))
    else None

abbrev pub verb_in : List ℕ → Option Verb
verb_in text =
    if bytes_eq text (codes "GET") then Some Get else
    (if bytes_eq text (codes "PUT") then Some Put else
    (if bytes_eq text (codes "POST") then Some Post else None))

-- how many bytes of body follow a request: none a GET, else the length, which must be there
abbrev pub body_after : Verb → Option ℕ → Option ℕ
body_after Get length = Some 0
body_after Put length = length
body_after Post length = length

abbrev pub with_body : Verb → Target → Option ℕ → Result RequestHead WireFault
with_body verb target None = Err NoLength
with_body verb target (Some n) = Ok (record { verb = verb; db = target.db; source = target.source; body = n })

-- the request that these parts make. The faults are tested in this order
abbrev pub request_with : Option (Option ℕ) → Option Target → Option Verb → Bool → Result RequestHead WireFault
request_with None target verb encoded = Err BadHead
request_with (Some length) None verb encoded = Err BadPath
request_with (Some length) (Some target) None encoded = Err BadMethod
request_with (Some length) (Some target) (Some verb) true = Err Chunked
request_with (Some length) (Some target) (Some verb) false = with_body verb target (body_after verb length)

abbrev pub request_said : List Pair → List ℕ → List ℕ → Result RequestHead WireFault
request_said ps target method = request_with (content_length ps) (target_in target) (verb_in method) (is_encoded ps)

abbrev pub request_of : grammar.RequestHead → Result RequestHead WireFault
request_of h = request_said (map name_and_value h.fields) h.target h.method

-- ---- replies

abbrev pub reply_with : ℕ → Option (Option ℕ) → Bool → Result ReplyHead WireFault
reply_with status None encoded = Err BadHead
reply_with status (Some length) true = Err Chunked
reply_with status (Some None) false = Err NoLength
reply_with status (Some (Some n)) false = Ok (record { status = status; body = n })

abbrev pub reply_said : List Pair → ℕ → Result ReplyHead WireFault
reply_said ps status = reply_with status (content_length ps) (is_encoded ps)

abbrev pub reply_of : grammar.ResponseHead → Result ReplyHead WireFault
reply_of h = reply_said (map name_and_value h.fields) (grammar.status_code h)
