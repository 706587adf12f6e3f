-- The heads that are written, as heads of the grammar: HTTP/1.1, each line ended by CR LF, a blank before each value.
use Rattle.std.specs.Prelude.{ℕ, Bool, true, false, List, [], ◌∷◌, ◌++◌, codes, Some, unwrap_or}
use Rattle.std.specs.Fmt.{decimal}
use Rattle.http.specs.StatusCode.{reason_phrase}
use Rattle.httparse.specs.Grammar as grammar
use Rattle.sync_http.specs.declared.address.Address.{Address}
use Rattle.sync_http.specs.declared.heads.Verb.{Verb}
use Rattle.sync_http.specs.declared.heads.Verb.TheVariants.{Get, Put, Post}
use Rattle.sync_http.specs.declared.heads.RequestHead.{RequestHead}
use Rattle.sync_http.specs.declared.heads.ReplyHead.{ReplyHead}

abbrev pub field : List ℕ → List ℕ → grammar.Field
field name value = record { name = name; raw = 32 ∷ value; end = grammar.crlf }

-- the media types of small bodies and of the stream
abbrev pub json_type : List ℕ
json_type = codes "application/json"

abbrev pub stream_type : List ℕ
stream_type = codes "application/x-u1db-sync-stream"

-- the type and the length of a body
abbrev pub type_field : List ℕ → grammar.Field
type_field type = field (codes "Content-Type") type

abbrev pub length_field : ℕ → grammar.Field
length_field n = field (codes "Content-Length") (decimal n)

-- ---- requests

abbrev pub verb_text : Verb → List ℕ
verb_text Get = codes "GET"
verb_text Put = codes "PUT"
verb_text Post = codes "POST"

-- the target `/DATABASE/sync-from/UID`; 47 is `/`
abbrev pub target_text : List ℕ → List ℕ → List ℕ
target_text db source = 47 ∷ db ++ codes "/sync-from/" ++ source

-- `HOST:PORT`; 58 is `:`
abbrev pub host_text : List ℕ → ℕ → List ℕ
host_text host port = host ++ 58 ∷ decimal port

-- a GET has no body
abbrev pub request_body_fields : Verb → ℕ → List grammar.Field
request_body_fields Get n = []
request_body_fields Put n = type_field json_type ∷ length_field n ∷ []
request_body_fields Post n = type_field stream_type ∷ length_field n ∷ []

abbrev pub request_written : Address → RequestHead → grammar.RequestHead
request_written to head =
    record {
      blank = [];
      method = verb_text head.verb;
      target = target_text head.db head.source;
      minor = 1;
      line_end = grammar.crlf;
      fields =
          field (codes "Host") (host_text to.host to.port) ∷ field (codes "Connection") (codes "close")
          ∷ request_body_fields head.verb head.body;
      last = grammar.crlf;
    }

-- ---- replies

abbrev pub type_of : Bool → List ℕ
type_of true = stream_type
type_of false = json_type

abbrev pub reply_written : ReplyHead → Bool → grammar.ResponseHead
reply_written head stream =
    record {
      blank = [];
      minor = 1;
      digits = decimal head.status;
      reason = Some (unwrap_or (reason_phrase head.status) []);
      line_end = grammar.crlf;
      fields =
          type_field (type_of stream) ∷ length_field head.body
          ∷ field (codes "Connection") (codes "close") ∷ [];
      last = grammar.crlf;
    }
