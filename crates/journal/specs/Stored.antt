-- An image that was read whole, and that stands: its bodies are still in the bytes of the file.
use Rattle.std.specs.Prelude.{◌≡◌, ℕ, ◌+◌, List, [], length}
use Rattle.journal.specs.Image.{Head, ReadsAs, header_bytes, up_to_gate}
use Rattle.journal.specs.Journal.{Extent}
use Rattle.journal.specs.Reader.{Reading, read_image}
use Rattle.journal.specs.Reader.Reading.{Damaged, Stands}

-- what is seen of it
pub record StoredImage : Type 0 where
  pub format : ℕ
  pub header : Head
  pub bodies : List (List ℕ)
  pub journal : Extent

abbrev pub found_bodies : Reading → List (List ℕ)
found_bodies (Damaged place) = []
found_bodies (Stands format head bodies) = bodies

-- the bodies that the file reads as
abbrev pub bodies_in : List ℕ → List (List ℕ)
bodies_in file = found_bodies (read_image file)

-- what is seen of this file, where its closed gate stands at the place
abbrev pub stored_image : ℕ → Head → ℕ → List ℕ → StoredImage
stored_image format head end file = record {
  format = format;
  header = head;
  bodies = bodies_in file;
  journal = record { length = end + 1; limit = head.limit };
}

-- the file reads as its bodies after this header; the first entry begins at the one place, and the closed gate stands
-- at the other
pub record IsWholeImage (format : ℕ) (head : Head) (start end : ℕ) (file : List ℕ) : Type 0 where
  pub reads : ReadsAs format head (bodies_in file) file
  pub first : length (header_bytes format head) ≡ start
  pub last : length (up_to_gate format head (bodies_in file)) ≡ end
