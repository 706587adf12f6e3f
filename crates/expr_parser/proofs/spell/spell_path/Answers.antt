-- Each part is written behind a dot, but for the first.
use Rattle.std.proofs.Common.{[], ◌++◌, string_bytes, ap, ◌∙◌}
use Rattle.std.specs.List.{join_with_byte}
use Rattle.expr_parser.proofs.Joined.{joined, joined-join, joined_next, joined_all, IsUtf8-mark}
use Rattle.expr_parser.proofs.spell.spell_path.Goals as goal

pub loop-part-preserved : goal.loop-part-preserved
loop-part-preserved c =
    let items = c.parts-part-items.result.now in
    let written = c.in_ok-push_str-2.ensures.bytes
    ∙ ap (λ x. string_bytes c.push_str.new.self ++ x) c.as_str.ensures in (
      IsUtf8-mark,
      joined_next 46 c.loop-part.mark.now items c.loop-part.part-index c.part-item.result
          c.loop-part-test.true c.part-item.is (string_bytes c.loop-part.out) (string_bytes c.push_str.new.self)
          (string_bytes c.push_str-in-loop-part.new.self)
          (string_bytes c.args.out.now ++ joined 46 [] items) c.in_ok-push_str.ensures.bytes written
          c.loop-part.invariant.1,
    )

pub returns : goal.returns
returns c =
    let items = c.parts-part-items.result.now in
    joined_all 46 c.loop-part.mark.now items c.loop-part.part-index c.loop-part-test.false
    (string_bytes c.loop-part.out) (string_bytes c.args.out.now ++ joined 46 [] items) c.loop-part.invariant.1
    ∙ ap (λ x. string_bytes c.args.out.now ++ x)
    (joined-join 46 items ∙ ap (join_with_byte 46) c.parts-part-items.ensures.value)
