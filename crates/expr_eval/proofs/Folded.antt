-- Folding a text of ASCII changes its capital letters alone.
use Rattle.std.proofs.Common.{◌≡◌, ℕ, Vec, List, length, map, encode_utf8_all, chars, IsAscii, IsUtf8, sym, ap, subst}
use Rattle.std.proofs.Common.{◌∙◌}
use Rattle.std.proofs.lemmas.List.{length-map, with_items_is}
use Rattle.std.specs.Vec.{with_items}
use Rattle.std.proofs.lemmas.Str.{encodes-IsAscii, chars-IsAscii, IsUtf8-from_ascii}
use Rattle.std.proofs.lemmas.Str.Ascii.{IsAscii-map, lowercase_ascii}
use Rattle.std.specs.Char.{to_ascii_lowercase}
use Rattle.std.specs.Str.{str_to_ascii_lowercase}
use Rattle.unicode.proofs.CaselessLemmas.CaselessLemmas.{default_case_fold-ascii, All-chars}
use Rattle.expr_eval.specs.Texts.{folded}

pub lowered_is_ascii : (text : List ℕ) → IsAscii text → IsAscii (str_to_ascii_lowercase text)
lowered_is_ascii text ascii = IsAscii-map to_ascii_lowercase text lowercase_ascii ascii

pub folded-ascii : (text : List ℕ) → IsAscii text → folded text ≡ str_to_ascii_lowercase text
unfolding folded
folded-ascii text ascii =
    ap encode_utf8_all (default_case_fold-ascii (chars text) (All-chars text ascii)
    ∙ ap (map to_ascii_lowercase) (chars-IsAscii text ascii))
    ∙ encodes-IsAscii (str_to_ascii_lowercase text) (lowered_is_ascii text ascii)

-- what the lanes wrote into the bytes
pub lowered_items : {Z : Type 0} (v : Vec ℕ Z) (slice new text : List ℕ) → slice ≡ v.items → length slice ≡ v.len
    → v.items ≡ text → new ≡ str_to_ascii_lowercase slice
    → (with_items v new).items ≡ str_to_ascii_lowercase text
lowered_items v slice new text is long from wrote =
    with_items_is v new (ap length wrote ∙ (length-map slice to_ascii_lowercase ∙ long))
    ∙ (wrote ∙ ap str_to_ascii_lowercase (is ∙ from))

pub lowered_is_utf8 : (text lowered : List ℕ) → IsAscii text → lowered ≡ str_to_ascii_lowercase text → IsUtf8 lowered
lowered_is_utf8 text lowered ascii e =
    subst IsUtf8 (sym e) (IsUtf8-from_ascii (str_to_ascii_lowercase text) (lowered_is_ascii text ascii))
