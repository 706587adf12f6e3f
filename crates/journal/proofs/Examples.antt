-- The plain reader on the worked images.
use Rattle.std.proofs.Common.{◌≡◌, ℕ, List, [], ◌∷◌, ◌++◌, refl}
use Rattle.u1_base.specs.Fields.{u16_bytes, u32_bytes, u64_bytes, text_field}
use Rattle.journal.specs.Image.{Head, first_field, body_field}
use Rattle.journal.specs.Reader.{read_image, read_entries}
use Rattle.journal.specs.Reader.Reading.{Damaged, Stands}

-- the header of the database `db` at the replica `a` with the limit 2^40, in format 2
worked_header : List ℕ
worked_header = 85 ∷ 49 ∷ 68 ∷ 66 ∷ 86 ∷ 79 ∷ 76 ∷ 2 ∷ 0 ∷ 2 ∷ 100 ∷ 98 ∷ 0 ∷ 1 ∷ 97 ∷ 0 ∷ 0 ∷ 1 ∷ 0 ∷ 0 ∷ 0
    ∷ 0 ∷ 0 ∷ []

worked_head : Head
worked_head = record { name = 100 ∷ 98 ∷ []; uid = 97 ∷ []; limit = 1099511627776 }

empty_image : read_image (worked_header ++ 0 ∷ []) ≡ Stands 2 worked_head []
unfolding worked_header worked_head read_image read_entries text_field u16_bytes u64_bytes u32_bytes
    body_field first_field
empty_image = refl

one_body : read_image (worked_header ++ 1 ∷ 0 ∷ 0 ∷ 0 ∷ 2 ∷ 7 ∷ 8 ∷ 0 ∷ 1 ∷ [])
    ≡ Stands 2 worked_head ((7 ∷ 8 ∷ []) ∷ [])
unfolding worked_header worked_head read_image read_entries text_field u16_bytes u64_bytes u32_bytes
    body_field first_field
one_body = refl

gate_missing : read_image worked_header ≡ Damaged 23
unfolding worked_header worked_head read_image read_entries text_field u16_bytes u64_bytes u32_bytes
    body_field first_field
gate_missing = refl

bad_length : read_image (worked_header ++ 1 ∷ 0 ∷ 0 ∷ 0 ∷ 3 ∷ 7 ∷ 8 ∷ []) ≡ Damaged 24
unfolding worked_header worked_head read_image read_entries text_field u16_bytes u64_bytes u32_bytes
    body_field first_field
bad_length = refl

nothing : read_image [] ≡ Damaged 0
unfolding read_image first_field
nothing = refl
