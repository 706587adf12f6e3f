-- The bytes of an image: a header, bodies after open gates, and a closed gate. The constants stand in src/layout.rt.
use Rattle.std.specs.Prelude.{◌≡◌, ◌≢◌, ◌⊎◌, ℕ, ◌^◌, ◌<◌, ◌≤◌, List, [], ◌∷◌, ◌++◌, codes, length}
use Rattle.u1_base.specs.Fields.{text_field, u32_bytes, u64_bytes}
use Rattle.u1_base.specs.Ids.{IsId}
use Rattle.u1_base.specs.declared.limits.TheConstants.{GREATEST_IMAGE_LIMIT, LEAST_IMAGE_LIMIT}
use Rattle.u1_base.specs.declared.ids.Form.TheVariants.{Name, Replica}
use Rattle.journal.specs.declared.layout.TheConstants.{CLOSED_GATE, FIRST_FORMAT, OPEN_GATE, SECOND_FORMAT}

-- the database's name, the replica's uid, and the most bytes that the image may have
pub record Head : Type 0 where
  pub name : List ℕ
  pub uid : List ℕ
  pub limit : ℕ

-- the second format is written, both are read
abbrev pub IsFormat : ℕ → Type 0
IsFormat format = (format ≡ FIRST_FORMAT) ⊎ (format ≡ SECOND_FORMAT)

-- from 1 KiB to 1 TiB
abbrev pub IsLimit : ℕ → Type 0
IsLimit limit = (LEAST_IMAGE_LIMIT ≤ limit) × (limit ≤ GREATEST_IMAGE_LIMIT)

-- what a header has to be
pub record IsHeader (format : ℕ) (head : Head) : Type 0 where
  pub known : IsFormat format
  pub name : IsId Name head.name
  pub uid : IsId Replica head.uid
  pub limit : IsLimit head.limit

-- the letters, and the format
unfoldable pub first_field : ℕ → List ℕ
first_field format = codes "U1DBVOL" ++ format ∷ []

unfoldable pub header_bytes : ℕ → Head → List ℕ
header_bytes format head = first_field format ++ text_field head.name ++ text_field head.uid ++ u64_bytes head.limit

-- a body has at least one byte, and its length fits four bytes
abbrev pub IsBody : List ℕ → Type 0
IsBody body = (1 ≤ length body) × (length body < 2 ^ 32)

abbrev pub AreBodies : List (List ℕ) → Type 0
AreBodies [] = Unit {0}
AreBodies (body ∷ bodies) = IsBody body × AreBodies bodies

-- a length and the bytes
unfoldable pub body_field : List ℕ → List ℕ
body_field body = u32_bytes (length body) ++ body

-- an entry: an open gate, and a body after its length
abbrev pub entry : List ℕ → List ℕ
entry body = OPEN_GATE ∷ body_field body

abbrev pub entries : List (List ℕ) → List ℕ
entries [] = []
entries (body ∷ bodies) = entry body ++ entries bodies

-- an image up to its closed gate
abbrev pub up_to_gate : ℕ → Head → List (List ℕ) → List ℕ
up_to_gate format head bodies = header_bytes format head ++ entries bodies

-- an image as it is written
abbrev pub image : ℕ → Head → List (List ℕ) → List ℕ
image format head bodies = up_to_gate format head bodies ++ CLOSED_GATE ∷ []

-- a file reads as this: header and entries, then a gate that is not open, and then anything
pub record ReadsAs (format : ℕ) (head : Head) (bodies : List (List ℕ)) (file : List ℕ) : Type 0 where
  pub gate : ℕ
  pub rest : List ℕ
  pub header : IsHeader format head
  pub fit : AreBodies bodies
  pub shut : gate ≢ OPEN_GATE
  pub split : file ≡ up_to_gate format head bodies ++ gate ∷ rest

-- a file reads as the image, or as the image with all these bodies more
abbrev pub ReadsWithOrWithoutAll : List (List ℕ) → ℕ → Head → List (List ℕ) → List ℕ → Type 0
ReadsWithOrWithoutAll more format head bodies file =
    ReadsAs format head bodies file ⊎ ReadsAs format head (bodies ++ more) file

-- or with one body more
abbrev pub ReadsWithOrWithout : List ℕ → ℕ → Head → List (List ℕ) → List ℕ → Type 0
ReadsWithOrWithout body = ReadsWithOrWithoutAll (body ∷ [])
