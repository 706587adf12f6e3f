-- The bytes of a reply, and what is written of them.
use Rattle.std.specs.Prelude.{ℕ, Bool, List, ◌++◌, length, Option}
use Rattle.std.specs.Io.KnownBytes.{Keeps}
use Rattle.httparse.specs.Grammar as grammar
use Rattle.link.specs.Streams.{AppendsFront}
use Rattle.sync_http.specs.Written.{reply_written}
use Rattle.sync_wire.specs.declared.fault.PutFault.{PutFault}
use Rattle.sync_wire.specs.declared.fault.PutFault.TheVariants.{Sink, Memory}

abbrev pub whole_reply : ℕ → Bool → List ℕ → List ℕ
whole_reply status stream body =
    grammar.print_response (reply_written (record { status = status; body = length body }) stream) ++ body

-- a front of the text was written, and nothing where memory ran out
abbrev pub PutsFront : Option (List ℕ) → Option (List ℕ) → List ℕ → PutFault → Type 0
PutsFront before after text Sink = AppendsFront before after text
PutsFront before after text Memory = Keeps before after
