-- The content that a byte text reads as.
use Rattle.std.specs.Prelude.{◌≡◌, ℕ, ℤ, pos, List, Option, Some, None, is_none, option_map, if◌then◌else◌}
use Rattle.serde_json.specs.Data as json
use Rattle.content.specs.Tree.{Tree, null, boolean, whole, text, list, object, Items, no_items, item, Fields, no_fields}
use Rattle.content.specs.Tree.{field}
use Rattle.content.specs.Canonical.{canonical}
use Rattle.content.specs.Contents.{IsContent}
use Rattle.content.specs.Faults.{fault_of, value_of, Reads}

-- the whole number that a number is; a float, which no content has, counts as 0
abbrev pub whole_in : json.Num → ℤ
whole_in (json.unsigned n) = pos n
whole_in (json.negative z) = z
whole_in (json.float x) = pos 0

-- the tree of a value of `serde_json`
abbrev mutual
  pub tree_in : json.Data → Tree
  tree_in json.null = null
  tree_in (json.boolean b) = boolean b
  tree_in (json.number n) = whole (whole_in n)
  tree_in (json.string s) = text s
  tree_in (json.array ds) = list (items_in ds)
  tree_in (json.object ms) = object (fields_in ms)

  pub items_in : json.Items → Items
  items_in json.no_items = no_items
  items_in (json.item d ds) = item (tree_in d) (items_in ds)

  pub fields_in : json.Members → Fields
  fields_in json.no_members = no_fields
  fields_in (json.member name d ms) = field name (tree_in d) (fields_in ms)

-- the tree of what `serde_json` reads, where the text has no fault (more in `content_in-Reads` of proofs/Reading.antt)
unfoldable pub content_in : List ℕ → Option Tree
content_in bytes = if is_none (fault_of bytes) then option_map tree_in (value_of bytes) else None

-- ---- what holds of all contents

pub record ContentsReadBack : Type 0 where
  -- what is written reads as itself
  pub back : (t : Tree) → IsContent t → content_in (canonical t) ≡ Some t
  -- what is read is a content, and the text's value without a fault
  pub only : (bytes : List ℕ) (t : Tree) → content_in bytes ≡ Some t → IsContent t × Reads bytes t
  -- two contents have two texts
  pub apart : (t u : Tree) → IsContent t → IsContent u → canonical t ≡ canonical u → t ≡ u
