-- Numbers among words.
use Rattle.std.specs.Prelude.{ℕ, ◌==◌, Bool, not, ◌&&◌, nat_le, List, length, slice_index, Option, Some, None}
use Rattle.std.specs.Prelude.{if◌then◌else◌}
use Rattle.std.specs.List.{list_all}
use Rattle.std.specs.Char.{is_ascii_digit}
use Rattle.std.specs.Str.Parse.{digits_value}

-- decimal digits, at least one; a first `0`, which is 48, stands alone
abbrev pub is_number : List ℕ → Bool
is_number digits =
    nat_le 1 (length digits) && not (slice_index digits 0 == 48 && nat_le 2 (length digits))
    && list_all is_ascii_digit digits

-- the number that a text is, if it lies between the two
abbrev pub number_in : ℕ → ℕ → List ℕ → Option ℕ
number_in least greatest text =
    if is_number text && nat_le least (digits_value 10 text) && nat_le (digits_value 10 text) greatest
    then Some (digits_value 10 text) else None
