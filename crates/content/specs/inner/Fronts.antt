-- What stands at the front of a text that is read as it would be written.
use Rattle.std.specs.Prelude.{◌≡◌, ℕ, ℤ, ◌≤◌, ◌++◌, ◌∷◌, Bool, ◌||◌, nat_le, List, Option, IsTrue, IsUtf8, false}
use Rattle.json.specs.Print.{quoted}
use Rattle.json.specs.Run.{is_stop}
use Rattle.serde_json.specs.Written.{items_text, members_text}
use Rattle.content.specs.Tree.{Tree, Items, Fields, whole, nesting, items_nesting, fields_nesting}
use Rattle.content.specs.Canonical.{canonical, items_data, fields_data}
use Rattle.content.specs.Contents.{AreFormed, HasFormedFields, IsFormed}
use Rattle.content.specs.Plain.{comes_after}

-- the text begins with the value of this tree, which nests no deeper, and the rest stands behind it
abbrev pub IsBefore : ℕ → List ℕ → Tree → List ℕ → Type 0
IsBefore levels text t rest = IsFormed t × (nesting t ≤ levels) × (text ≡ canonical t ++ rest)

-- the same of the items of a list, up to its bracket
abbrev pub ItemsBefore : ℕ → List ℕ → Items → List ℕ → Type 0
ItemsBefore levels text ts rest =
    AreFormed ts × (items_nesting ts ≤ levels) × (text ≡ items_text false (items_data ts) ++ rest)

-- the same of the fields of an object, up to its brace
abbrev pub FieldsBefore : ℕ → List ℕ → Fields → List ℕ → Type 0
FieldsBefore levels text fs rest =
    HasFormedFields fs × (fields_nesting fs ≤ levels) × (text ≡ members_text false (fields_data fs) ++ rest)

-- the same of some value, of some items and of some fields
abbrev pub IsValueBefore : ℕ → List ℕ → List ℕ → Type 0
IsValueBefore levels text rest = (t : Tree) × IsBefore levels text t rest

abbrev pub AreItemsBefore : ℕ → List ℕ → List ℕ → Type 0
AreItemsBefore levels text rest = (ts : Items) × ItemsBefore levels text ts rest

abbrev pub AreFieldsBefore : ℕ → List ℕ → List ℕ → Type 0
AreFieldsBefore levels text rest = (fs : Fields) × FieldsBefore levels text fs rest

-- the text begins with a whole number of a content, and the rest stands behind it
abbrev pub IsNumberBefore : List ℕ → List ℕ → Type 0
IsNumberBefore text rest = (z : ℤ) × IsFormed (whole z) × (text ≡ canonical (whole z) ++ rest)

-- the text begins with the name of a field, which comes after the last one, and the value stands behind its colon
pub record IsNamed (last : Option (List ℕ)) (text name value : List ℕ) : Type 0 where
  pub split : text ≡ quoted name ++ 58 ∷ value
  pub utf8 : IsUtf8 name
  pub behind : IsTrue (comes_after last name)

-- a byte that a text does not have as it is, or that is not ASCII
abbrev pub is_special : ℕ → Bool
is_special x = is_stop x || nat_le 128 x
