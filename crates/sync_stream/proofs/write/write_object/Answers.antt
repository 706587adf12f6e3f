use Rattle.std.proofs.Common.{refl, append_assoc}
use Rattle.sync_stream.specs.Written.{doc_tree}
use Rattle.sync_stream.proofs.write.write_object.Goals as goal

pub returns-clause-tokens : goal.returns-clause-tokens
unfolding doc_tree
returns-clause-tokens c =
    rw (
      c.in_ok-end_object.ensures.ok,
      c.in_ok-string-3.ensures.ok,
      c.in_ok-key-5.ensures.ok,
      c.in_ok-string-2.ensures.ok,
      c.in_ok-key-4.ensures.ok,
      c.in_ok-string.ensures.ok,
      c.in_ok-key-3.ensures.ok,
      c.in_ok-u64.ensures.ok,
      c.in_ok-key-2.ensures.ok,
      c.in_ok-write_content.ensures.tokens,
      c.in_ok-key.ensures.ok,
      c.in_ok-begin_object.ensures.ok,
      c.as_str.ensures.value,
      c.as_str-2.ensures,
      c.in_ok-rev.ensures,
      c.generation.ensures,
      c.trans_text.ensures,
    )
    (simp append_assoc refl)
