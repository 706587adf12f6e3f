use Rattle.std.proofs.Common.{refl, sym, ◌∙◌, true≢false}
use Rattle.std.proofs.lemmas.Str.{is_utf8-from_IsUtf8}
use Rattle.content.proofs.Refused.{value_of-refused}
use Rattle.content.proofs.contents.value_in.Goals as goal

pub returns-in-Ok-clause-value : goal.returns-in-Ok-clause-value
returns-in-Ok-clause-value c =
    let ok = c.in-Ok.ensures.ok in rw (is_utf8-from_IsUtf8 c.args.bytes.now ok.0) ok.1

pub returns-else-is_memory-clause-fault : goal.returns-else-is_memory-clause-fault
returns-else-is_memory-clause-fault c =
    λ other. (
      refl,
      value_of-refused c.args.bytes.now
          (c.in-Err.ensures.err (λ e. absurd (true≢false (sym (c.is_memory.ensures.1 e) ∙ c.if-is_memory.false)))),
    )
