-- Private words of the readers of single fields, from which opening is put together.
use Rattle.std.specs.Prelude.{◌≡◌, ◌≢◌, ◌⊎◌, ℕ, ◌+◌, ◌<◌, ◌≤◌, List, ◌∷◌, ◌++◌, length, drop, Result, Ok, Err}
use Rattle.std.specs.Str.{IsUtf8}
use Rattle.u1_base.specs.Fields.{text_field, u64_bytes}
use Rattle.u1_base.specs.Ids.{IsId}
use Rattle.u1_base.specs.declared.ids.Form.{Form}
use Rattle.journal.specs.Image.{IsFormat, IsLimit, IsHeader, AreBodies, first_field, IsBody, body_field, entries}
use Rattle.journal.specs.Image.{header_bytes}
use Rattle.journal.specs.Damage.{Begins, DamagedAt}
use Rattle.journal.specs.declared.layout.TheConstants.{OPEN_GATE}
use Rattle.journal.specs.declared.parsed.Parsed.{Parsed}
use Rattle.journal.specs.declared.parsed.Parsed.TheVariants as parsed
use Rattle.journal.specs.declared.parsed.Start.{Start}

-- the bytes begin with no field of the kind
abbrev pub NoFirst : List ℕ → Type 0
NoFirst bytes = (format : ℕ) → IsFormat format → ¬ (Begins (first_field format) bytes)

abbrev pub NoLimit : List ℕ → Type 0
NoLimit bytes = (limit : ℕ) → IsLimit limit → ¬ (Begins (u64_bytes limit) bytes)

abbrev pub NoBody : List ℕ → Type 0
NoBody bytes = (body : List ℕ) → IsBody body → ¬ (Begins (body_field body) bytes)

-- the bytes begin with no text that is UTF-8
abbrev pub NoText : List ℕ → Type 0
NoText bytes = (text : List ℕ) → length text < 65536 → IsUtf8 text → ¬ (Begins (text_field text) bytes)

-- with no id of the form
abbrev pub NoId : Form → List ℕ → Type 0
NoId form bytes = (id : List ℕ) → IsId form id → ¬ (Begins (text_field id) bytes)

abbrev pub ReadsIdField : Form → List ℕ → Parsed (List ℕ) → Type 0
ReadsIdField form bytes (parsed.Whole id) = IsId form id × Begins (text_field id) bytes
ReadsIdField form bytes (parsed.Broken place) = NoId form bytes
ReadsIdField form bytes parsed.Memory = Unit {0}

-- the bytes from the place on stand after these
pub record IsAt (front : List ℕ) (place : ℕ) (bytes : List ℕ) : Type 0 where
  pub there : length front ≡ place
  pub split : bytes ≡ front ++ drop place bytes

-- the header, and where the entries begin
abbrev pub ReadsHeader : List ℕ → Parsed Start → Type 0
ReadsHeader bytes (parsed.Whole start) =
    IsHeader start.format start.header × IsAt (header_bytes start.format start.header) start.length bytes
ReadsHeader bytes (parsed.Broken place) = DamagedAt place bytes
ReadsHeader bytes parsed.Memory = Unit {0}

-- the bytes are entries, and then a gate is missing or has no body after it
abbrev pub BreaksAt : ℕ → List ℕ → Type 0
BreaksAt place bytes =
    (bodies : List (List ℕ)) × AreBodies bodies
    × (((bytes ≡ entries bodies) × (place ≡ length (entries bodies)))
    ⊎ ((tail : List ℕ) × (bytes ≡ entries bodies ++ OPEN_GATE ∷ tail) × (place ≡ length (entries bodies) + 1)
    × NoBody tail))

-- the bytes are entries of this length, and then a gate that is not open; or they break
abbrev pub EndsEntries : List ℕ → Result ℕ ℕ → Type 0
EndsEntries bytes (Ok size) =
    (bodies : List (List ℕ)) × AreBodies bodies × (size ≡ length (entries bodies))
    × ((gate : ℕ) × (rest : List ℕ) × (gate ≢ OPEN_GATE) × (bytes ≡ entries bodies ++ gate ∷ rest))
EndsEntries bytes (Err place) = BreaksAt place bytes

-- the entries of these bodies stand before the place
pub record Reached (bodies : List (List ℕ)) (place : ℕ) (bytes : List ℕ) : Type 0 where
  pub fit : AreBodies bodies
  pub there : IsAt (entries bodies) place bytes
  pub in_range : place ≤ length bytes
