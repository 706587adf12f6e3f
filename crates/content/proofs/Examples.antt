-- The definitions, computed on small texts.
use Rattle.std.proofs.Common.{◌≡◌, ℕ, pos, List, [], ◌∷◌, true, Some, None, codes, refl, ap, ◌∙◌}
use Rattle.std.proofs.lemmas.Str.{is_utf8-from_IsUtf8}
use Rattle.std.specs.Fmt.{digits}
use Rattle.json.proofs.Printed.Utf8.{are_ascii, IsUtf8-are_ascii}
use Rattle.serde_json.proofs.OnLiterals.{serde_json_on_literals}
use Rattle.serde_json.specs.Read.{read}
use Rattle.content.specs.Tree.{Tree, null, boolean, whole, list, object, no_items, item, no_fields, field}
use Rattle.content.specs.Canonical.{data_of, canonical}
use Rattle.content.specs.Faults.{fault_of, fault_of_reading, value_of}
use Rattle.content.specs.Reading.{content_in}
use Rattle.content.specs.declared.fault.ContentFault.TheVariants.{NotJson, NotObject, NotWhole, OutOfRange}
use Rattle.content.proofs.Reading.{content_in-Reads, refused}

-- {"a":[1,true],"b":null}
abbrev tree : Tree
tree = object (field (97 ∷ []) (list (item (whole (pos 1)) (item (boolean true) no_items)))
    (field (98 ∷ []) null no_fields))

abbrev sorted : List ℕ
sorted = codes "{\"a\":[1,true],\"b\":null}"

written : canonical tree ≡ sorted
unfolding serde_json_on_literals digits
written = refl

value_of-ascii : (bytes : List ℕ) → are_ascii bytes ≡ true → value_of bytes ≡ read bytes
value_of-ascii bytes ascii = rw (is_utf8-from_IsUtf8 bytes (IsUtf8-are_ascii bytes ascii)) refl

-- blanks, another order, and a member that is replaced
reads : value_of (codes " {\"b\":0, \"a\":[1,true],\"b\" : null }") ≡ Some (data_of tree)
unfolding serde_json_on_literals
reads = value_of-ascii (codes " {\"b\":0, \"a\":[1,true],\"b\" : null }") refl ∙ refl

-- so it reads as the tree
read_as : content_in (codes " {\"b\":0, \"a\":[1,true],\"b\" : null }") ≡ Some tree
unfolding serde_json_on_literals
read_as =
    let text = codes " {\"b\":0, \"a\":[1,true],\"b\" : null }" in
    (content_in-Reads text tree).1 (ap fault_of_reading reads, reads)

no_json : fault_of (codes "{\"a\":1,}") ≡ Some NotJson
unfolding serde_json_on_literals
no_json = ap fault_of_reading (value_of-ascii (codes "{\"a\":1,}") refl)

no_object : fault_of (codes "[]") ≡ Some NotObject
unfolding serde_json_on_literals
no_object = ap fault_of_reading (value_of-ascii (codes "[]") refl)

no_content : content_in (codes "[]") ≡ None
no_content = refused (codes "[]") NotObject no_object

too_large : fault_of (codes "{\"a\":9223372036854775808}") ≡ Some OutOfRange
unfolding serde_json_on_literals
too_large = ap fault_of_reading (value_of-ascii (codes "{\"a\":9223372036854775808}") refl)

not_whole : fault_of (codes "{\"a\":-0}") ≡ Some NotWhole
unfolding serde_json_on_literals
not_whole = ap fault_of_reading (value_of-ascii (codes "{\"a\":-0}") refl)

least : fault_of (codes "{\"a\":-9223372036854775808}") ≡ None
unfolding serde_json_on_literals
least = ap fault_of_reading (value_of-ascii (codes "{\"a\":-9223372036854775808}") refl)
