use Rattle.std.proofs.Common.{refl, append_assoc}
use Rattle.sync_http.specs.Bodies.{told_tree}
use Rattle.sync_http.proofs.told.write_object.Goals as goal

pub returns-clause-tokens : goal.returns-clause-tokens
unfolding told_tree
returns-clause-tokens c =
    rw (
      c.in_ok-end_object.ensures.ok,
      c.in_ok-string.ensures.ok,
      c.in_ok-key-2.ensures.ok,
      c.in_ok-u64.ensures.ok,
      c.in_ok-key.ensures.ok,
      c.in_ok-begin_object.ensures.ok,
      c.generation.ensures,
      c.trans_text.ensures,
    )
    (simp append_assoc refl)
