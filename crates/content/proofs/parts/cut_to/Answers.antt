-- The fields that are kept are those of these names.
use Rattle.std.proofs.Common.{◌≡◌, ◌∙◌, ap, sym}
use Rattle.content.specs.Parts.{part_of}
use Rattle.content.specs.Tree.{object}
use Rattle.content.specs.TreeOf.{fields_view, tree_of}
use Rattle.content.specs.declared.value.Json.{Object, the_lemmas}
use Rattle.content.proofs.PartTrees.{kept_fields}
use Rattle.content.proofs.parts.cut_to.Goals as goal

pub returns-in-Object : goal.returns-in-Object
returns-in-Object c =
    let names = c.args.names.now in
    let old = c.in-Object.fields in
    let new = c.fields_asked.result in
    let was : tree_of (Object old) ≡ object (fields_view old.items) = simp the_lemmas in
    let is : tree_of (Object new) ≡ object (fields_view new.items) = simp the_lemmas in
    is ∙ ap object (ap fields_view c.fields_asked.ensures ∙ kept_fields names old.items)
    ∙ sym (ap (part_of names) (ap tree_of c.in-Object.is ∙ was))
