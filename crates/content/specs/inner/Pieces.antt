-- What is made of a text of which only some fields are made.
use Rattle.std.specs.Prelude.{◌≡◌, ℕ, List, [], ◌∷◌, ◌++◌, map, cond}
use Rattle.content.specs.Contents.{most_depth}
use Rattle.content.specs.inner.Fronts.{FieldsBefore, IsBefore}
use Rattle.content.specs.Parts.{fields_among, is_among, part_of}
use Rattle.content.specs.Tree.{Tree, Fields}
use Rattle.content.specs.TreeOf.{pair_of}
use Rattle.content.specs.declared.value.Field.{Field}

-- the fields of these names, of those before an object's brace
abbrev pub SomeBefore : List (List ℕ) → ℕ → List ℕ → Fields → List ℕ → Type 0
SomeBefore names levels text some rest =
    (all : Fields) × FieldsBefore levels text all rest × (some ≡ fields_among names all)

-- the field of this name and value, where it is asked for
abbrev pub asked : List (List ℕ) → List ℕ → Tree → List (List ℕ × Tree)
asked names name t = cond (is_among names name) ((name, t) ∷ []) []

-- a value stands at the front, and its field is added where it is asked for
abbrev pub IsTaken : List (List ℕ) → ℕ → List ℕ → List ℕ → List ℕ → List Field → List Field → Type 0
IsTaken names levels name text rest old new =
    (t : Tree) × IsBefore levels text t rest × (map pair_of new ≡ map pair_of old ++ asked names name t)

-- the part of the tree whose text this is
abbrev pub IsPartBefore : List (List ℕ) → List ℕ → Tree → Type 0
IsPartBefore names text part = (t : Tree) × IsBefore most_depth text t [] × (part ≡ part_of names t)
