-- The bytes of the front stand before the rest.
use Rattle.std.proofs.Common.{encode_utf8_all, chars, arith, ◌∙◌}
use Rattle.expr_parser.specs.Grammar.{is_part}
use Rattle.expr_parser.specs.Descent.{lead_of}
use Rattle.expr_parser.proofs.Texts.{front_bytes, front_length, cut_at_rest, take_front}
use Rattle.expr_parser.proofs.reader.front.Goals as goal

pub overflow_sub-text : goal.overflow_sub-text
overflow_sub-text c =
    let text = c.args.text.now in
    let rest = c.args.rest.now in
    omega (
      arith,
      front_length text (encode_utf8_all (lead_of is_part (chars text))) rest
          (front_bytes text rest c.utf8.text c.utf8.rest c.requires),
    )

pub split_at-requires : goal.split_at-requires
split_at-requires c =
    let text = c.args.text.now in
    let rest = c.args.rest.now in
    cut_at_rest text (encode_utf8_all (lead_of is_part (chars text))) rest
    (front_bytes text rest c.utf8.text c.utf8.rest c.requires) c.utf8.rest

pub returns : goal.returns
returns c =
    let text = c.args.text.now in
    let rest = c.args.rest.now in
    c.split_at.ensures.front ∙ take_front text (encode_utf8_all (lead_of is_part (chars text))) rest
    (front_bytes text rest c.utf8.text c.utf8.rest c.requires)
