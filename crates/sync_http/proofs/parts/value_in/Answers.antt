-- A text that is not UTF-8, or that `serde_json` refuses, has no value.
use Rattle.std.proofs.Common.{sym, ◌∙◌, true≢false}
use Rattle.std.proofs.lemmas.Str.{is_utf8-from_IsUtf8}
use Rattle.content.proofs.Refused.{value_of-refused}
use Rattle.sync_http.proofs.parts.value_in.Goals as goal

pub returns-in-Ok : goal.returns-in-Ok
returns-in-Ok c = let ok = c.in-Ok.ensures.ok in rw (is_utf8-from_IsUtf8 c.args.bytes.now ok.0) (sym ok.1)

pub returns-else-is_memory : goal.returns-else-is_memory
returns-else-is_memory c =
    sym (value_of-refused c.args.bytes.now
    (c.in-Err.ensures.err (λ e. absurd (true≢false (sym (c.is_memory.ensures.1 e) ∙ c.if-is_memory.false)))))
