-- What a content is: a tree of null, truth values, whole numbers, texts, lists and objects.
use Rattle.std.specs.Prelude.{ℕ, suc, max, ℤ, List, Bool, true, false}

mutual
  pub data Tree : Type 0 where
    null : Tree
    boolean : Bool → Tree
    whole : ℤ → Tree
    text : List ℕ → Tree
    list : Items → Tree
    object : Fields → Tree

  pub data Items : Type 0 where
    no_items : Items
    item : Tree → Items → Items

  -- an object's pairs of a name and a tree
  pub data Fields : Type 0 where
    no_fields : Fields
    field : List ℕ → Tree → Fields → Fields

abbrev pub is_object : Tree → Bool
is_object null = false
is_object (boolean b) = false
is_object (whole z) = false
is_object (text s) = false
is_object (list ts) = false
is_object (object fs) = true

-- how deep lists and objects are nested; a list or an object that holds neither counts as 1
abbrev mutual
  pub nesting : Tree → ℕ
  nesting null = 0
  nesting (boolean b) = 0
  nesting (whole z) = 0
  nesting (text s) = 0
  nesting (list ts) = suc (items_nesting ts)
  nesting (object fs) = suc (fields_nesting fs)

  pub items_nesting : Items → ℕ
  items_nesting no_items = 0
  items_nesting (item t ts) = max (nesting t) (items_nesting ts)

  pub fields_nesting : Fields → ℕ
  fields_nesting no_fields = 0
  fields_nesting (field name t fs) = max (nesting t) (fields_nesting fs)
