-- What may be left while an image is begun anew.
use Rattle.std.specs.Prelude.{◌≡◌, ◌≢◌, ◌⊎◌, ℕ, ◌<◌, List, length, slice_index}
use Rattle.journal.specs.declared.layout.TheConstants.{FIRST_BYTE, FIRST_FIELD_BYTES}

-- no image begins so: another first byte, or fewer bytes than the first field has
abbrev pub IsSpoilt : List ℕ → Type 0
IsSpoilt file = (slice_index file 0 ≢ FIRST_BYTE) ⊎ (length file < FIRST_FIELD_BYTES)

abbrev pub IsKeptOrSpoilt : List ℕ → List ℕ → Type 0
IsKeptOrSpoilt old file = (file ≡ old) ⊎ IsSpoilt file

-- the old bytes, a spoilt file, or the new image
abbrev pub IsAnew : List ℕ → List ℕ → List ℕ → Type 0
IsAnew old image file = (file ≡ old) ⊎ (IsSpoilt file ⊎ (file ≡ image))
