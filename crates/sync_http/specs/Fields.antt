-- What the header fields of a message say.
use Rattle.std.specs.Prelude.{ℕ, ◌&&◌, Bool, nat_le, nat_lt, if◌then◌else◌, List, [], ◌∷◌, length}
use Rattle.std.specs.Prelude.{codes, Option, Some, None, option_map}
use Rattle.std.specs.List.{list_all}
use Rattle.std.specs.Str.{str_eq_ignore_ascii_case}
use Rattle.std.specs.Str.Parse.{digits_value}
use Rattle.std.specs.Char.{is_ascii_digit}
use Rattle.u1_base.specs.declared.limits.TheConstants.{GREATEST_COUNT}
use Rattle.sync_http.specs.declared.fields.TheConstants.{MOST_DIGITS}

-- a field: its name, and its value without the white space around it
abbrev pub Pair : Type 0
Pair = List ℕ × List ℕ

-- the values of the fields of this name; names are compared without regard to ASCII case
abbrev pub values_named : List ℕ → List Pair → List (List ℕ)
values_named name [] = []
values_named name (p ∷ ps) = if str_eq_ignore_ascii_case p.0 name then p.1
    ∷ values_named name ps else values_named name ps

-- some decimal digits, and not too many
abbrev pub is_numeral : List ℕ → Bool
is_numeral text = nat_le 1 (length text) && nat_le (length text) MOST_DIGITS && list_all is_ascii_digit text

-- whose number is not above the greatest count
abbrev pub is_length : List ℕ → Bool
is_length text = is_numeral text && nat_le (digits_value 10 text) GREATEST_COUNT

abbrev pub number_in : List ℕ → Option ℕ
number_in text = if is_length text then Some (digits_value 10 text) else None

-- the number that the values of Content-Length say: none where the field is missing, and no answer where it stands
-- twice or is no number
abbrev pub length_of : List (List ℕ) → Option (Option ℕ)
length_of [] = Some None
length_of (text ∷ []) = option_map Some (number_in text)
length_of (text ∷ more ∷ texts) = None

abbrev pub content_length : List Pair → Option (Option ℕ)
content_length ps = length_of (values_named (codes "Content-Length") ps)

-- whether a Transfer-Encoding stands
abbrev pub is_encoded : List Pair → Bool
is_encoded ps = nat_lt 0 (length (values_named (codes "Transfer-Encoding") ps))
