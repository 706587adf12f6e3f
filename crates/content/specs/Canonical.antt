-- The one text that is written for a tree: compact, names in their order, texts and numbers as `serde_json` spells
-- them.
use Rattle.std.specs.Prelude.{ℕ, List}
use Rattle.serde_json.specs.Data as json
use Rattle.serde_json.specs.Find.{of_integer}
use Rattle.serde_json.specs.Written.{compact_text}
use Rattle.content.specs.Tree.{Tree, null, boolean, whole, text, list, object, Items, no_items, item, Fields, no_fields}
use Rattle.content.specs.Tree.{field}

-- the tree as a value of `serde_json`
abbrev mutual
  pub data_of : Tree → json.Data
  data_of null = json.null
  data_of (boolean b) = json.boolean b
  data_of (whole z) = json.number (of_integer z)
  data_of (text s) = json.string s
  data_of (list ts) = json.array (items_data ts)
  data_of (object fs) = json.object (fields_data fs)

  pub items_data : Items → json.Items
  items_data no_items = json.no_items
  items_data (item t ts) = json.item (data_of t) (items_data ts)

  pub fields_data : Fields → json.Members
  fields_data no_fields = json.no_members
  fields_data (field name t fs) = json.member name (data_of t) (fields_data fs)

abbrev pub canonical : Tree → List ℕ
canonical t = compact_text (data_of t)
