-- What its two writes may leave on the way.
use Rattle.std.specs.Prelude.{◌⊎◌, ℕ, ◌+◌, List, length}
use Rattle.disk_model.specs.Disk.{Torn, overwritten}

-- the bytes after the gate were torn, or they are there and the gate was torn
abbrev pub IsAdding : ℕ → List ℕ → List ℕ → List ℕ → Type 0
IsAdding gate behind old file = Torn (gate + 1) (length behind) old file
    ⊎ Torn gate 1 (overwritten old (gate + 1) behind) file
