-- A plain reader of images: what opening finds, as a function.
use Rattle.std.specs.Prelude.{ℕ, zero, suc, ◌+◌, ◌^◌, Bool, ◌&&◌, ◌==◌, nat_le, nat_lt, if◌then◌else◌, Option, Some}
use Rattle.std.specs.Prelude.{None, List, [], ◌∷◌, length, take, drop}
use Rattle.std.specs.Int.{w16, w32, w64, from_be_bytes}
use Rattle.std.specs.Str.{bytes_eq}
use Rattle.u1_base.specs.Fields.{text_field, u64_bytes}
use Rattle.u1_base.specs.Ids.{is_id}
use Rattle.u1_base.specs.declared.limits.TheConstants.{GREATEST_IMAGE_LIMIT, LEAST_IMAGE_LIMIT}
use Rattle.u1_base.specs.declared.ids.Form.{Form}
use Rattle.u1_base.specs.declared.ids.Form.TheVariants.{Name, Replica}
use Rattle.journal.specs.Image.{Head, body_field, first_field}
use Rattle.journal.specs.declared.layout.TheConstants.{BODY_LENGTH_BYTES, FIRST_FIELD_BYTES, FIRST_FORMAT}
use Rattle.journal.specs.declared.layout.TheConstants.{LIMIT_BYTES, OPEN_GATE, SECOND_FORMAT, TEXT_LENGTH_BYTES}

-- what opening finds: the place of the damage, or what the file reads as
pub data Reading : Type 0 where
  Damaged : ℕ → Reading
  Stands : ℕ → Head → List (List ℕ) → Reading

abbrev pub begins : List ℕ → List ℕ → Bool
begins field file = bytes_eq (take (length field) file) field

abbrev pub read_first : List ℕ → Option ℕ
read_first file =
    if begins (first_field FIRST_FORMAT) file then Some FIRST_FORMAT
    else (if begins (first_field SECOND_FORMAT) file then Some SECOND_FORMAT else None)

-- the text of the field that the bytes begin with
abbrev pub read_text : Form → List ℕ → Option (List ℕ)
read_text form file =
    let text = take (from_be_bytes w16 (take TEXT_LENGTH_BYTES file)) (drop TEXT_LENGTH_BYTES file) in
    if begins (text_field text) file && is_id form text then Some text else None

abbrev pub read_limit : List ℕ → Option ℕ
read_limit file =
    let limit = from_be_bytes w64 (take LIMIT_BYTES file) in
    if begins (u64_bytes limit) file && nat_le LEAST_IMAGE_LIMIT limit
    && nat_le limit GREATEST_IMAGE_LIMIT then Some limit else None

abbrev pub read_body : List ℕ → Option (List ℕ)
read_body file =
    let body = take (from_be_bytes w32 (take BODY_LENGTH_BYTES file)) (drop BODY_LENGTH_BYTES file) in
    if begins (body_field body) file && nat_le 1 (length body) && nat_lt (length body) (2 ^ 32) then Some body else None

-- what was read, or damage at the place
abbrev pub or_damaged : {A : Type 0} → Option A → ℕ → (A → Reading) → Reading
or_damaged None place then_ = Damaged place
or_damaged (Some field) place then_ = then_ field

-- one more body before what was found
abbrev pub with_body : List ℕ → Reading → Reading
with_body body (Damaged place) = Damaged place
with_body body (Stands format head bodies) = Stands format head (body ∷ bodies)

-- the entries from a place on; no more of them than the fuel
unfoldable pub read_entries : ℕ → ℕ → Head → ℕ → List ℕ → Reading
read_entries zero format head place file = Damaged place
read_entries (suc fuel) format head place [] = Damaged place
read_entries (suc fuel) format head place (gate ∷ tail) =
    if gate == OPEN_GATE
    then or_damaged (read_body tail) (place + 1)
    (λ body. with_body body
    (read_entries fuel format head (place + 1 + length (body_field body)) (drop (length (body_field body)) tail)))
    else Stands format head []

-- after the header
abbrev pub after_limit : List ℕ → ℕ → List ℕ → List ℕ → ℕ → Reading
after_limit file format name uid limit =
    let place = FIRST_FIELD_BYTES + length (text_field name) + length (text_field uid) + LIMIT_BYTES in
    read_entries (length file) format (record { name = name; uid = uid; limit = limit }) place (drop place file)

abbrev pub after_uid : List ℕ → ℕ → List ℕ → List ℕ → Reading
after_uid file format name uid =
    let place = FIRST_FIELD_BYTES + length (text_field name) + length (text_field uid) in
    or_damaged (read_limit (drop place file)) place (after_limit file format name uid)

abbrev pub after_name : List ℕ → ℕ → List ℕ → Reading
after_name file format name =
    let place = FIRST_FIELD_BYTES + length (text_field name) in
    or_damaged (read_text Replica (drop place file)) place (after_uid file format name)

abbrev pub after_first : List ℕ → ℕ → Reading
after_first file format =
    or_damaged (read_text Name (drop FIRST_FIELD_BYTES file)) FIRST_FIELD_BYTES (after_name file format)

-- the first field that cannot be read, or what the file reads as
unfoldable pub read_image : List ℕ → Reading
read_image file = or_damaged (read_first file) 0 (after_first file)
