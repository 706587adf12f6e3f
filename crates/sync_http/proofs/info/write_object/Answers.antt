use Rattle.std.proofs.Common.{refl, append_assoc}
use Rattle.sync_http.specs.Bodies.{info_tree}
use Rattle.sync_http.proofs.info.write_object.Goals as goal

pub returns-clause-tokens : goal.returns-clause-tokens
unfolding info_tree
returns-clause-tokens c =
    rw (
      c.in_ok-end_object.ensures.ok,
      c.in_ok-string-4.ensures.ok,
      c.in_ok-key-6.ensures.ok,
      c.in_ok-string-3.ensures.ok,
      c.in_ok-key-5.ensures.ok,
      c.in_ok-u64-2.ensures.ok,
      c.in_ok-key-4.ensures.ok,
      c.in_ok-string-2.ensures.ok,
      c.in_ok-key-3.ensures.ok,
      c.in_ok-string.ensures.ok,
      c.in_ok-key-2.ensures.ok,
      c.in_ok-u64.ensures.ok,
      c.in_ok-key.ensures.ok,
      c.in_ok-begin_object.ensures.ok,
      c.as_str.ensures.value,
      c.as_str-2.ensures.value,
      c.generation.ensures,
      c.generation-2.ensures,
      c.trans_text.ensures,
      c.trans_text-2.ensures,
    )
    (simp append_assoc refl)
