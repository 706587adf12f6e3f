-- The texts that transforms make of one value.
use Rattle.std.specs.Prelude.{ℕ, ◌-◌, suc, Bool, true, false, ℤ, pos, negsuc, List, ◌∷◌, ◌++◌, length, replicate, codes}
use Rattle.std.specs.Prelude.{encode_utf8_all}
use Rattle.std.specs.Fmt.{decimal}
use Rattle.std.specs.Str.{chars}
use Rattle.unicode.specs.Caseless.Caseless.{default_case_fold}

-- a text by the default case folding of Unicode, which may make it longer
unfoldable pub folded : List ℕ → List ℕ
folded text = encode_utf8_all (default_case_fold (chars text))

-- the decimal digits, with `0` (48) before them where they are fewer than the width
abbrev pub padded : ℕ → ℕ → List ℕ
padded width n = replicate (width - length (decimal n)) 48 ++ decimal n

-- a whole number, a negative one after `-` (45), which is a part of the width. A longer one is not cut.
abbrev pub number_text : ℕ → ℤ → List ℕ
number_text width (pos n) = padded width n
number_text width (negsuc n) = 45 ∷ padded (width - 1) (suc n)

abbrev pub truth_text : Bool → List ℕ
truth_text true = codes "1"
truth_text false = codes "0"
