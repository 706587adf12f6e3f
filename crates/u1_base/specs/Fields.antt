-- How numbers and texts are spelled in images and bodies: numbers big-endian, a text after its length.
use Rattle.std.specs.Prelude.{ℕ, List, ◌++◌, length}
use Rattle.std.specs.Int.{w16, w32, w64, to_be_bytes}

unfoldable pub u16_bytes : ℕ → List ℕ
u16_bytes n = to_be_bytes w16 n

unfoldable pub u32_bytes : ℕ → List ℕ
u32_bytes n = to_be_bytes w32 n

unfoldable pub u64_bytes : ℕ → List ℕ
u64_bytes n = to_be_bytes w64 n

-- a text: its length in two bytes, then its bytes
unfoldable pub text_field : List ℕ → List ℕ
text_field text = u16_bytes (length text) ++ text
