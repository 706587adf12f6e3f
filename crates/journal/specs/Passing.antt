-- Reading an image, and going through its entries one after the other.
use Rattle.std.specs.Prelude.{◌≡◌, ℕ, ◌+◌, ◌<◌, List, [], ◌∷◌, ◌++◌, length, Option, Some, None, Result, Ok, Err}
use Rattle.journal.specs.Image.{up_to_gate}
use Rattle.journal.specs.Journal.{IsExtent}
use Rattle.journal.specs.Reader.Reading.{Damaged, Stands}
use Rattle.journal.specs.Opening.{Finds}
use Rattle.journal.specs.Stored.{StoredImage}
use Rattle.journal.specs.declared.layout.TheConstants.{BEFORE_BODY_BYTES}
use Rattle.journal.specs.declared.passing.Entry.{Entry}
use Rattle.journal.specs.declared.opening.OpenFault.{OpenFault}
use Rattle.journal.specs.declared.opening.OpenFault.TheVariants as fault

-- what was read, or the damage that was named, is what is found of the bytes; the other faults say nothing of them
abbrev pub ReadsImage : List ℕ → Result StoredImage OpenFault → Type 0
ReadsImage file (Ok image) =
    Finds file (Stands image.format image.header image.bodies)
    × IsExtent image.format image.header image.bodies image.journal
ReadsImage file (Err (fault.Damaged place)) = Finds file (Damaged place)
ReadsImage file (Err fault.Disk) = Unit {0}
ReadsImage file (Err fault.Memory) = Unit {0}

-- these are the first bodies of the image, and the place is where their entries end
pub record HasPassed (image : StoredImage) (bodies : List (List ℕ)) (place : ℕ) : Type 0 where
  pub there : length (up_to_gate image.format image.header bodies) ≡ place
  pub rest : List (List ℕ)
  pub split : image.bodies ≡ bodies ++ rest

-- what is met after these bodies: the end, where there are no others, or the next one
abbrev pub Meets : StoredImage → List (List ℕ) → Option Entry → Type 0
Meets image bodies None = image.bodies ≡ bodies
Meets image bodies (Some entry) = HasPassed image (bodies ++ entry.body.now ∷ []) entry.next

-- an entry at the place: a gate, a length and the body, before the image's closed gate
pub record IsWithin (image : StoredImage) (place : ℕ) (entry : Entry) : Type 0 where
  pub body : entry.place ≡ place + BEFORE_BODY_BYTES
  pub next : entry.next ≡ entry.place + length entry.body.now
  pub low : entry.next < image.journal.length
