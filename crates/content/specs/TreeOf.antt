-- The tree that a `Json` stands for. `pair_of`, `items_view` and `fields_view` are private.
use Rattle.std.specs.Prelude.{ℕ, List, [], ◌∷◌, map}
use Rattle.content.specs.Tree.{Tree, null, boolean, whole, text, list, object, Items, no_items, item, Fields, no_fields}
use Rattle.content.specs.Tree.{field}
use Rattle.content.specs.declared.value.Field.{Field}
use Rattle.content.specs.declared.value.Json.{Json}
use Rattle.content.specs.declared.value.Json.TheFolds.{fold-Json, fold-Field}
use Rattle.content.specs.declared.value.Json.TheOpen.{Json-F, Field-F}

abbrev pub items_of : List Tree → Items
items_of [] = no_items
items_of (t ∷ ts) = item t (items_of ts)

abbrev pub fields_of : List (List ℕ × Tree) → Fields
fields_of [] = no_fields
fields_of (f ∷ fs) = field f.0 f.1 (fields_of fs)

-- one level, with each value inside already seen as its tree
abbrev pub tree_step : Json-F Tree (List ℕ × Tree) → Tree
tree_step Json-F.Null = null
tree_step (Json-F.Bool b) = boolean b
tree_step (Json-F.Whole z) = whole z
tree_step (Json-F.Text s) = text s
tree_step (Json-F.List v) = list (items_of v.items)
tree_step (Json-F.Object v) = object (fields_of v.items)

abbrev pub pair_step : Field-F Tree (List ℕ × Tree) → List ℕ × Tree
pair_step f = (f.name, f.value)

abbrev pub tree_of : Json → Tree
tree_of = fold-Json Tree (List ℕ × Tree) tree_step pair_step

abbrev pub pair_of : Field → List ℕ × Tree
pair_of = fold-Field Tree (List ℕ × Tree) tree_step pair_step

abbrev pub items_view : List Json → Items
items_view js = items_of (map tree_of js)

abbrev pub fields_view : List Field → Fields
fields_view fs = fields_of (map pair_of fs)
