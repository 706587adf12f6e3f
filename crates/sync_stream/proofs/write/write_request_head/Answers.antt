use Rattle.std.proofs.Common.{refl, append_assoc}
use Rattle.sync_stream.specs.Written.{head_tree}
use Rattle.sync_stream.proofs.write.write_request_head.Goals as goal

pub returns-clause-tokens : goal.returns-clause-tokens
unfolding head_tree
returns-clause-tokens c =
    rw (
      c.in_ok-end_object.ensures.ok,
      c.in_ok-string.ensures.ok,
      c.in_ok-key-3.ensures.ok,
      c.in_ok-u64.ensures.ok,
      c.in_ok-key-2.ensures.ok,
      c.in_ok-boolean.ensures.ok,
      c.in_ok-key.ensures.ok,
      c.in_ok-begin_object.ensures.ok,
      c.generation.ensures,
      c.trans_text.ensures,
    )
    (simp append_assoc refl)
