-- A text that is not UTF-8, or that `serde_json` refuses, has no value.
use Rattle.std.proofs.Common.{◌≡◌, ℕ, List, Bool, true, false, cond, Option, None, IsUtf8, refl}
use Rattle.std.proofs.lemmas.Str.{IsUtf8-from_is_utf8}
use Rattle.std.specs.Str.{is_utf8}
use Rattle.serde_json.specs.Data.{Data}
use Rattle.serde_json.specs.Read.{read}
use Rattle.content.specs.Faults.{value_of}

none_either_way : (b : Bool) (o : Option Data) → (b ≡ true → o ≡ None) → cond b o None ≡ None
none_either_way true o refused = refused refl
none_either_way false o refused = refl

pub value_of-refused : (bytes : List ℕ) → (IsUtf8 bytes → read bytes ≡ None) → value_of bytes ≡ None
value_of-refused bytes refused = none_either_way (is_utf8 bytes) (read bytes)
    (λ e. refused (IsUtf8-from_is_utf8 bytes e))
