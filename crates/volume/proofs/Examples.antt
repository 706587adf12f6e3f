-- What is found of worked files.
use Rattle.std.proofs.Common.{◌≡◌, ℕ, List, [], ◌∷◌, ◌++◌, refl}
use Rattle.u1_base.specs.Fields.{u16_bytes, u32_bytes, u64_bytes, text_field}
use Rattle.disks.specs.declared.name.DiskName.TheVariants.{Root, Left, Right}
use Rattle.disks.specs.declared.trio.Trio.{Trio}
use Rattle.journal.specs.Image.{Head, first_field, body_field}
use Rattle.journal.specs.Reader.{read_image, read_entries}
use Rattle.volume.specs.Store.{found_of}
use Rattle.volume.specs.Store.FoundImages.{Blank, Damaged, Stands}

files : List ℕ → List ℕ → List ℕ → Trio (List ℕ)
files root left right = record { root = root; left = left; right = right }

-- the header of the database `db` at the replica `a` with the limit 2^40, in format 2
worked_header : List ℕ
worked_header = 85 ∷ 49 ∷ 68 ∷ 66 ∷ 86 ∷ 79 ∷ 76 ∷ 2 ∷ 0 ∷ 2 ∷ 100 ∷ 98 ∷ 0 ∷ 1 ∷ 97 ∷ 0 ∷ 0 ∷ 1 ∷ 0 ∷ 0 ∷ 0
    ∷ 0 ∷ 0 ∷ []

worked_head : Head
worked_head = record { name = 100 ∷ 98 ∷ []; uid = 97 ∷ []; limit = 1099511627776 }

no_database : found_of (files [] worked_header worked_header) ≡ Blank
unfolding files
no_database = refl

long_root : found_of (files (0 ∷ 0 ∷ []) worked_header worked_header) ≡ Damaged Root 1
unfolding files
long_root = refl

empty_store : found_of (files (0 ∷ []) (worked_header ++ 0 ∷ []) []) ≡ Stands Left 2 worked_head []
unfolding files worked_header worked_head read_image read_entries text_field u16_bytes u64_bytes u32_bytes
    body_field first_field
empty_store = refl

one_body : found_of (files (255 ∷ []) [] (worked_header ++ 1 ∷ 0 ∷ 0 ∷ 0 ∷ 2 ∷ 7 ∷ 8 ∷ 0 ∷ []))
    ≡ Stands Right 2 worked_head ((7 ∷ 8 ∷ []) ∷ [])
unfolding files worked_header worked_head read_image read_entries text_field u16_bytes u64_bytes u32_bytes
    body_field first_field
one_body = refl

gate_missing : found_of (files (6 ∷ []) worked_header []) ≡ Damaged Left 23
unfolding files worked_header worked_head read_image read_entries text_field u16_bytes u64_bytes u32_bytes
    body_field first_field
gate_missing = refl
