-- What a source asks, as a value and as its bytes.
use Rattle.std.specs.Prelude.{ℕ, List, [], ◌++◌, length, Some}
use Rattle.u1_base.specs.Places.{Place}
use Rattle.httparse.specs.Grammar as grammar
use Rattle.sync_http.specs.Bodies.{told_text}
use Rattle.sync_http.specs.Written.{request_written}
use Rattle.sync_http.specs.declared.address.Address.{Address}
use Rattle.sync_http.specs.declared.heads.RequestHead.{RequestHead}
use Rattle.sync_http.specs.declared.heads.Verb.{Verb}
use Rattle.sync_http.specs.declared.heads.Verb.TheVariants.{Get, Put, Post}
use Rattle.sync_stream.specs.Came.{Whole}
use Rattle.sync_stream.specs.Messages.{Purpose, AskInfo, Tell, Exchange, Says}
use Rattle.sync_stream.specs.Written.{stream_text}
use Rattle.sync_stream.specs.declared.line.HeadKind.TheVariants as kind
use Rattle.sync_stream.specs.declared.line.SyncDoc.{SyncDoc}

-- for the target's info; that it keeps this place as told; or an exchange, with the known place and the documents
pub data Question : Type 0 where
  ForInfo : Question
  ToKeep : Place → Question
  ToExchange : Place → List SyncDoc → Question

-- what the target is asked by it
abbrev pub purpose_of : Question → Purpose
purpose_of ForInfo = AskInfo
purpose_of (ToKeep at) = Tell (Says at)
purpose_of (ToExchange known docs) = Exchange (record { head = Some known; docs = docs; ending = Whole })

abbrev pub verb_of : Question → Verb
verb_of ForInfo = Get
verb_of (ToKeep at) = Put
verb_of (ToExchange known docs) = Post

abbrev pub request_body : Question → List ℕ
request_body ForInfo = []
request_body (ToKeep at) = told_text at
request_body (ToExchange known docs) = stream_text kind.Request known docs

-- its head, to the database of this address, with the length of its body
abbrev pub request_head : Address → List ℕ → Question → RequestHead
request_head to source question = record {
  verb = verb_of question;
  db = to.db;
  source = source;
  body = length (request_body question);
}

-- the bytes of the request: its head and its body
abbrev pub request_text : Address → List ℕ → Question → List ℕ
request_text to source question =
    grammar.print_request (request_written to (request_head to source question)) ++ request_body question
