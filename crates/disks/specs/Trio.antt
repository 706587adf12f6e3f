-- One thing for each of the three disks.
use Rattle.std.specs.Prelude.{ℕ, ◌+◌, List, [], ◌∷◌}
use Rattle.disks.specs.declared.name.DiskName.{DiskName}
use Rattle.disks.specs.declared.name.DiskName.TheVariants.{Root, Left, Right}
use Rattle.disks.specs.declared.trio.Trio.{Trio}

-- the one of this disk
abbrev pub pick : {A : Type 0} → DiskName → Trio A → A
pick Root trio = trio.root
pick Left trio = trio.left
pick Right trio = trio.right

-- the other two, in the order root, left, right: those before this disk, and those after it
abbrev pub others : {A : Type 0} → DiskName → Trio A → List A × List A
others Root trio = ([], trio.left ∷ trio.right ∷ [])
others Left trio = (trio.root ∷ [], trio.right ∷ [])
others Right trio = (trio.root ∷ trio.left ∷ [], [])

-- the same asked of each
abbrev pub each : {A B : Type 0} → (A → B) → Trio A → Trio B
each f trio = record { root = f trio.root; left = f trio.left; right = f trio.right }

-- the three numbers together
abbrev pub total : Trio ℕ → ℕ
total trio = trio.root + trio.left + trio.right

-- what holds of each holds of the one
pub one_of_each : {A : Type 0} (P : A → Type 0) (name : DiskName) (trio : Trio A) → P trio.root → P trio.left
    → P trio.right → P (pick name trio)
one_of_each P Root trio root left right = root
one_of_each P Left trio root left right = left
one_of_each P Right trio root left right = right
