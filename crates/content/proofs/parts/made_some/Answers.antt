-- Each turn looks at one field, and the brace ends them.
use Rattle.std.proofs.Common.{◌≡◌, ◌-◌, ◌∙◌, List, ap, drop, get_or, length, map, option_map, take, arith}
use Rattle.content.specs.Parts.{fields_among}
use Rattle.content.specs.Tree.{field, no_fields}
use Rattle.content.specs.TreeOf.{fields_view, pair_of}
use Rattle.content.specs.declared.value.Field.{Field}
use Rattle.content.proofs.FlatTexts.{behind_first}
use Rattle.content.proofs.PartTrees.{last_asked, more_asked}
use Rattle.content.proofs.MadeTrees.{fields_onto}
use Rattle.content.proofs.SpelledTexts.{field_more, fields_begun, no_fields_before, one_field}
use Rattle.content.proofs.parts.made_some.Goals as goal

pub returns-in-125 : goal.returns-in-125
returns-in-125 c =
    let text = c.args.bytes.now in
    let first : get_or text 0 0 ≡ 125 = grind arith in (
      no_fields,
      no_fields_before c.args.levels text _ (behind_first text 125 (omega arith) first),
      ap fields_view c.new-found.ensures.items,
    )

pub fields-init : goal.fields-init
fields-init c = record {
  so_far = λ fs rest m. (
    fs,
    fields_begun c.args.levels c.args.bytes.now fs rest m,
    ap (λ (found : List Field). fields_onto (map pair_of found) (fields_among c.args.names.now fs))
        c.new-found.ensures.items,
  );
  no_longer = omega arith;
}

pub fields-preserved : goal.fields-preserved
fields-preserved c =
    let behind = c.in_ok-behind.behind.now in
    let last = option_map (λ s. s.now) c.fields.last in
    let name = c.in-Some.name.now in
    let taken = c.in_ok-behind.ensures.taken in
    let first : get_or behind 0 0 ≡ 44 = grind arith in
    let comma = behind_first behind 44 (omega arith) first in record {
      so_far = λ fs rest m.
          let all = c.fields.invariant.so_far (field name taken.0 fs) rest
          (field_more c.args.levels last c.fields.left.now name c.in-Some.text.now taken.0 behind _ fs rest
          c.in-Some.ensures.named taken.1 comma m) in (
            all.0,
            all.1,
            more_asked c.args.names.now c.fields.found.items c.take_field.new.found.items name taken.0 fs taken.2 ∙ all.2,
          );
      no_longer = grind arith;
    }

pub returns-in-125-behind : goal.returns-in-125-behind
returns-in-125-behind c =
    let behind = c.in_ok-behind.behind.now in
    let last = option_map (λ s. s.now) c.fields.last in
    let name = c.in-Some.name.now in
    let taken = c.in_ok-behind.ensures.taken in
    let first : get_or behind 0 0 ≡ 125 = grind arith in
    let rest = take (length behind - 1) (drop 1 behind) in
    let all = c.fields.invariant.so_far (field name taken.0 no_fields) rest
    (one_field c.args.levels last c.fields.left.now name c.in-Some.text.now taken.0 behind rest c.in-Some.ensures.named
    taken.1 (behind_first behind 125 (omega arith) first)) in
    (all.0, all.1, last_asked c.args.names.now c.fields.found.items c.take_field.new.found.items name taken.0 taken.2 ∙ all.2)
