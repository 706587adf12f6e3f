-- Which trees are contents.
use Rattle.std.specs.Prelude.{◌≡◌, ℕ, ◌≤◌, IsTrue, FitsSigned, IsUtf8, List, length, ⊤}
use Rattle.std.specs.Int.{w64}
use Rattle.std.specs.Cmp.Lexicographic.{slice_cmp}
use Rattle.std.specs.Ordering.{nat_cmp}
use Rattle.std.specs.declared.cmp.Ordering.TheVariants.{Less}
use Rattle.u1_base.specs.declared.limits.TheConstants.{MOST_CONTENT_BYTES, MOST_CONTENT_DEPTH}
use Rattle.content.specs.Tree.{Tree, null, boolean, whole, text, list, object, Items, no_items, item, Fields, no_fields}
use Rattle.content.specs.Tree.{field, is_object, nesting}
use Rattle.content.specs.Canonical.{canonical}

-- the longest content, in bytes
abbrev pub most_bytes : ℕ
most_bytes = MOST_CONTENT_BYTES

-- the deepest nesting of a content
abbrev pub most_depth : ℕ
most_depth = MOST_CONTENT_DEPTH

-- the name stands before every name of the fields, by bytes
abbrev pub Precedes : List ℕ → Fields → Type 0
Precedes name no_fields = ⊤
Precedes name (field other t fs) = (slice_cmp nat_cmp name other ≡ Less) × Precedes name fs

-- whole numbers are from -2^63 to 2^63-1, texts are UTF-8, and the names of each object ascend, so that none stands
-- twice
abbrev mutual
  pub IsFormed : Tree → Type 0
  IsFormed null = ⊤
  IsFormed (boolean b) = ⊤
  IsFormed (whole z) = FitsSigned w64 z
  IsFormed (text s) = IsUtf8 s
  IsFormed (list ts) = AreFormed ts
  IsFormed (object fs) = HasFormedFields fs

  pub AreFormed : Items → Type 0
  AreFormed no_items = ⊤
  AreFormed (item t ts) = IsFormed t × AreFormed ts

  pub HasFormedFields : Fields → Type 0
  HasFormedFields no_fields = ⊤
  HasFormedFields (field name t fs) = IsUtf8 name × Precedes name fs × IsFormed t × HasFormedFields fs

-- a content: a formed tree whose root is an object, nested no deeper and with a text no longer than may be read
pub record IsContent (t : Tree) : Type 0 where
  pub root : IsTrue (is_object t)
  pub shallow : nesting t ≤ most_depth
  pub formed : IsFormed t
  pub short : length (canonical t) ≤ most_bytes
