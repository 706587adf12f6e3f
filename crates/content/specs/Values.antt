-- When two trees are the same, as a test.
use Rattle.std.specs.Prelude.{◌&&◌, Bool, true, false, not, cond}
use Rattle.std.specs.Ordering.{int_eq}
use Rattle.std.specs.Str.{bytes_eq}
use Rattle.content.specs.Tree.{Tree, null, boolean, whole, text, list, object, Items, no_items, item, Fields, no_fields}
use Rattle.content.specs.Tree.{field}

abbrev mutual
  pub is_same : Tree → Tree → Bool
  is_same null null = true
  is_same (boolean a) (boolean b) = cond a b (not b)
  is_same (whole a) (whole b) = int_eq a b
  is_same (text a) (text b) = bytes_eq a b
  is_same (list a) (list b) = is_same_items a b
  is_same (object a) (object b) = is_same_fields a b
  is_same _ _ = false

  pub is_same_items : Items → Items → Bool
  is_same_items no_items no_items = true
  is_same_items (item t ts) (item u us) = is_same t u && is_same_items ts us
  is_same_items _ _ = false

  pub is_same_fields : Fields → Fields → Bool
  is_same_fields no_fields no_fields = true
  is_same_fields (field k t fs) (field l u gs) = bytes_eq k l && is_same t u && is_same_fields fs gs
  is_same_fields _ _ = false
