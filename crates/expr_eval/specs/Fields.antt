-- What a field has in a content tree.
use Rattle.std.specs.Prelude.{ℕ, List, [], ◌∷◌, ◌++◌, if◌then◌else◌}
use Rattle.std.specs.Str.{bytes_eq}
use Rattle.content.specs.Tree.{Tree, null, boolean, whole, text, list, object, Items, no_items, item, Fields, no_fields}
use Rattle.content.specs.Tree.{field}
use Rattle.expr_eval.specs.declared.value.Value.{Value}
use Rattle.expr_eval.specs.declared.value.Value.TheVariants.{Text, Whole, Truth}

-- the value that a tree is by itself: a text, a whole number or a truth value
abbrev pub own_value : Tree → List Value
own_value null = []
own_value (boolean b) = Truth b ∷ []
own_value (whole z) = Whole z ∷ []
own_value (text s) = Text s ∷ []
own_value (list ts) = []
own_value (object fs) = []

-- those of the items of a list, in order. A list or an object among them gives nothing.
abbrev pub own_values : Items → List Value
own_values no_items = []
own_values (item t ts) = own_value t ++ own_values ts

-- the values of a field by its parts, the outermost first. A part leads into the member of an object that has this
-- name, and it goes into each item of a list. Where no part is left, a tree gives itself, and a list its items.
abbrev mutual
  pub field_values : Tree → List (List ℕ) → List Value
  field_values (list ts) [] = own_values ts
  field_values (list ts) (name ∷ parts) = item_values ts (name ∷ parts)
  field_values (object fs) [] = []
  field_values (object fs) (name ∷ parts) = member_values fs name parts
  field_values tree [] = own_value tree
  field_values tree (name ∷ parts) = []

  -- of all items of a list, in order
  pub item_values : Items → List (List ℕ) → List Value
  item_values no_items parts = []
  item_values (item t ts) parts = field_values t parts ++ item_values ts parts

  -- of the member of an object that has the name
  pub member_values : Fields → List ℕ → List (List ℕ) → List Value
  member_values no_fields name parts = []
  member_values (field other t fs) name parts =
      if bytes_eq other name then field_values t parts else member_values fs name parts
