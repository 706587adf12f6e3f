-- An object behind whose brace nothing stands is the whole text.
use Rattle.std.proofs.Common.{◌≡◌, get_or, arith, subst, sym}
use Rattle.std.proofs.lemmas.List.{nil_from_length}
use Rattle.content.specs.Tree.{object}
use Rattle.content.specs.inner.Pieces.{IsPartBefore}
use Rattle.content.specs.TreeOf.{fields_view, tree_of}
use Rattle.content.specs.declared.value.Json.{Object, the_lemmas}
use Rattle.content.proofs.FlatTexts.{behind_first}
use Rattle.content.proofs.PartTrees.{whole_part}
use Rattle.content.proofs.parts.made_part.Goals as goal

pub returns-then-is_empty : goal.returns-then-is_empty
returns-then-is_empty c =
    let text = c.args.bytes.now in
    let first : get_or text 0 0 ≡ 123 = grind arith in
    let v = c.in_ok-fields.fields in
    let seen : tree_of (Object v) ≡ object (fields_view v.items) = simp the_lemmas in
    subst (IsPartBefore c.args.names.now text) (sym seen)
    (whole_part c.args.names.now text _ c.in_ok-fields.rest.now (fields_view c.in_ok-fields.fields.items)
    (behind_first text 123 (omega arith) first) c.in_ok-fields.ensures
    (nil_from_length c.in_ok-fields.rest.now (grind arith)))
