-- How a file begins.
use Rattle.std.specs.Prelude.{ℕ, List, [], ◌∷◌, length, Option, Some, None}
use Rattle.disk_model.specs.declared.synced.Front.{Front}

-- its first byte and its length, where it is not empty
abbrev pub front_of : List ℕ → Option Front
front_of [] = None
front_of (byte ∷ bytes) = Some (record { first = byte; length = length (byte ∷ bytes) })
