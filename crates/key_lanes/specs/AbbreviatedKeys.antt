-- An abbreviated key: the first bytes of a key as a number. It tells most keys apart.
use Rattle.std.specs.Prelude.{◌≡◌, ◌+◌, ◌*◌, ◌^◌, ◌<◌, ℕ, zero, suc, List, [], ◌∷◌, slice_index}

-- so many bytes as a number, the first the highest; a place past the end counts 0
unfoldable pub abbreviated_key : ℕ → List ℕ → ℕ
abbreviated_key zero bytes = 0
abbreviated_key (suc n) [] = 0
abbreviated_key (suc n) (byte ∷ bytes) = byte * 256 ^ n + abbreviated_key n bytes

abbrev pub AreBytes : List ℕ → Type 0
AreBytes bytes = (k : ℕ) → slice_index bytes k < 256

-- the number is the abbreviated key of a list of bytes
abbrev pub IsAbbreviatedKey : ℕ → List ℕ → ℕ → Type 0
IsAbbreviatedKey n bytes number = (number ≡ abbreviated_key n bytes) × AreBytes bytes
