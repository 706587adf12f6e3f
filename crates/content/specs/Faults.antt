-- Which byte texts read as a content, and why another one does not.
use Rattle.std.specs.Prelude.{◌≡◌, ℕ, ◌^◌, ◌||◌, Bool, false, not, nat_lt, nat_le, is_some, if◌then◌else◌, List, ◌++◌}
use Rattle.std.specs.Prelude.{codes, length, Option, Some, None}
use Rattle.std.specs.Fmt.{decimal}
use Rattle.std.specs.Str.{is_utf8}
use Rattle.serde_json.specs.Data.{Num, unsigned, negative, float, Data, null, boolean, number, string, array, object}
use Rattle.serde_json.specs.Data.{Items, no_items, item, Members, no_members, member, depth}
use Rattle.serde_json.specs.Find.{is_float, as_object}
use Rattle.serde_json.specs.Read.{read}
use Rattle.content.specs.Canonical.{data_of}
use Rattle.content.specs.Contents.{most_bytes, most_depth}
use Rattle.content.specs.Tree.{Tree}
use Rattle.content.specs.declared.fault.ContentFault.{ContentFault}
use Rattle.content.specs.declared.fault.ContentFault.TheVariants.{TooBig, NotJson, NotObject, TooDeep, NotWhole}
use Rattle.content.specs.declared.fault.ContentFault.TheVariants.{OutOfRange, Memory}

-- the value that `serde_json` reads, where it reads one
abbrev pub value_of : List ℕ → Option Data
value_of bytes = if is_utf8 bytes then read bytes else None

-- whether some number of the value passes the test
abbrev mutual
  pub any_number : (Num → Bool) → Data → Bool
  any_number p null = false
  any_number p (boolean b) = false
  any_number p (number n) = p n
  any_number p (string s) = false
  any_number p (array ds) = any_in_items p ds
  any_number p (object ms) = any_in_members p ms

  pub any_in_items : (Num → Bool) → Items → Bool
  any_in_items p no_items = false
  any_in_items p (item d ds) = any_number p d || any_in_items p ds

  pub any_in_members : (Num → Bool) → Members → Bool
  any_in_members p no_members = false
  any_in_members p (member name d ms) = any_number p d || any_in_members p ms

-- a whole number from 2^63 on
abbrev pub is_large : Num → Bool
is_large (unsigned n) = nat_le (2 ^ 63) n
is_large (negative z) = false
is_large (float x) = false

-- why a value is no content. `serde_json` keeps a number as a float where it has a fraction or an exponent, is `-0`,
-- or lies below -2^63 or above 2^64-1.
abbrev pub fault_of_value : Data → Option ContentFault
fault_of_value d =
    if not (is_some (as_object d)) then Some NotObject else
    (if nat_lt most_depth (depth d) then Some TooDeep else
    (if any_number is_float d then Some NotWhole else
    (if any_number is_large d then Some OutOfRange else None)))

abbrev pub fault_of_reading : Option Data → Option ContentFault
fault_of_reading None = Some NotJson
fault_of_reading (Some d) = fault_of_value d

-- why a byte text is no content: its length first, then whether it is JSON, then the conditions on its value
abbrev pub fault_of : List ℕ → Option ContentFault
fault_of bytes =
    if nat_lt most_bytes (length bytes) then Some (TooBig (length bytes)) else fault_of_reading (value_of bytes)

-- the byte text reads as the tree
abbrev pub Reads : List ℕ → Tree → Type 0
Reads bytes t = (fault_of bytes ≡ None) × (value_of bytes ≡ Some (data_of t))

-- what a fault prints
abbrev pub fault_text : ContentFault → List ℕ
fault_text (TooBig n) = codes "the content has " ++ decimal n ++ codes " bytes, which is too many"
fault_text NotJson = codes "the content is not JSON"
fault_text NotObject = codes "the content is not an object"
fault_text TooDeep = codes "the content is nested too deeply"
fault_text NotWhole = codes "a number of the content is not whole or does not fit 64 bits"
fault_text OutOfRange = codes "a number of the content is above 9223372036854775807"
fault_text Memory = codes "out of memory"
