-- The part of a content that has just the fields of some names.
use Rattle.std.specs.Prelude.{ℕ, List, [], ◌∷◌, Bool, if◌then◌else◌}
use Rattle.std.specs.List.{list_any}
use Rattle.std.specs.Str.{bytes_eq}
use Rattle.content.specs.Tree.{Tree, null, boolean, whole, text, list, object, Fields, no_fields, field}

abbrev pub is_among : List (List ℕ) → List ℕ → Bool
is_among names name = list_any (λ n. bytes_eq n name) names

abbrev pub fields_among : List (List ℕ) → Fields → Fields
fields_among names no_fields = no_fields
fields_among names (field name t fs) =
    if is_among names name then field name t (fields_among names fs) else fields_among names fs

-- of an object just its fields of these names; any other tree as it is
abbrev pub part_of : List (List ℕ) → Tree → Tree
part_of names null = null
part_of names (boolean b) = boolean b
part_of names (whole z) = whole z
part_of names (text s) = text s
part_of names (list ts) = list ts
part_of names (object fs) = object (fields_among names fs)
