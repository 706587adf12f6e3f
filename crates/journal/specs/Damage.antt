-- Where a file is damaged: at the first field that cannot be read.
use Rattle.std.specs.Prelude.{◌≡◌, ℕ, List, [], ◌∷◌, ◌++◌, length}
use Rattle.u1_base.specs.Fields.{text_field, u64_bytes}
use Rattle.u1_base.specs.Ids.{IsId}
use Rattle.u1_base.specs.declared.ids.Form.TheVariants as form
use Rattle.journal.specs.Image.{Head, IsFormat, IsLimit, IsHeader, IsBody, AreBodies, first_field, body_field}
use Rattle.journal.specs.Image.{up_to_gate}
use Rattle.journal.specs.declared.layout.TheConstants.{OPEN_GATE}

-- the file begins with these bytes
abbrev pub Begins : List ℕ → List ℕ → Type 0
Begins bytes file = (rest : List ℕ) × (file ≡ bytes ++ rest)

-- the kinds of fields
pub data Part : Type 0 where
  First : Part
  Name : Part
  Uid : Part
  Limit : Part
  Gate : Part
  Body : Part

-- which bytes are a field of the kind
abbrev pub IsField : Part → List ℕ → Type 0
IsField First field = (format : ℕ) × IsFormat format × (field ≡ first_field format)
IsField Name field = (name : List ℕ) × IsId form.Name name × (field ≡ text_field name)
IsField Uid field = (uid : List ℕ) × IsId form.Replica uid × (field ≡ text_field uid)
IsField Limit field = (limit : ℕ) × IsLimit limit × (field ≡ u64_bytes limit)
IsField Gate field = (gate : ℕ) × (field ≡ gate ∷ [])
IsField Body field = (body : List ℕ) × IsBody body × (field ≡ body_field body)

-- what stands before the field of the kind in an image: all fields before it; a gate and a body come after the entries
abbrev pub before_part : Part → ℕ → Head → List (List ℕ) → List ℕ
before_part First format head bodies = []
before_part Name format head bodies = first_field format
before_part Uid format head bodies = first_field format ++ text_field head.name
before_part Limit format head bodies = first_field format ++ text_field head.name ++ text_field head.uid
before_part Gate format head bodies = up_to_gate format head bodies
before_part Body format head bodies = up_to_gate format head bodies ++ OPEN_GATE ∷ []

-- these bytes stand before a field of the kind in some image
pub record IsBefore (part : Part) (bytes : List ℕ) : Type 0 where
  pub format : ℕ
  pub head : Head
  pub bodies : List (List ℕ)
  pub header : IsHeader format head
  pub fit : AreBodies bodies
  pub is : bytes ≡ before_part part format head bodies

-- the place of damage: the file is whole up to there, and no field of the kind that is due stands there
pub record DamagedAt (place : ℕ) (file : List ℕ) : Type 0 where
  pub part : Part
  pub before : List ℕ
  pub whole : IsBefore part before
  pub there : length before ≡ place
  pub begins : Begins before file
  pub broken : (field : List ℕ) → IsField part field → ¬ (Begins (before ++ field) file)
