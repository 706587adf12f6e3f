-- An image that is spelled in memory, and not on a disk yet.
use Rattle.std.specs.Prelude.{◌≡◌, ℕ, List, length}
use Rattle.disk_model.specs.Device.{File}
use Rattle.journal.specs.Image.{Head, IsHeader, AreBodies, image}
use Rattle.journal.specs.Journal.{Extent, Holds}
use Rattle.journal.specs.declared.layout.TheConstants.{SECOND_FORMAT}

-- the bytes, and the limit
pub record Spelled : Type 0 where
  pub bytes : List ℕ
  pub limit : ℕ

-- it is the image of this header and these bodies, in the format that is written
pub record Spells (head : Head) (bodies : List (List ℕ)) (spelled : Spelled) : Type 0 where
  pub header : IsHeader SECOND_FORMAT head
  pub fit : AreBodies bodies
  pub bytes : spelled.bytes ≡ image SECOND_FORMAT head bodies
  pub limit : spelled.limit ≡ head.limit

-- the journal of a file that has just these bytes
abbrev pub extent_of : Spelled → Extent
extent_of spelled = record { length = length spelled.bytes; limit = spelled.limit }

-- the file holds the image that is spelled
abbrev pub HoldsSpelled : Spelled → Extent → File → Type 0
HoldsSpelled spelled journal file =
    (head : Head) (bodies : List (List ℕ)) → Spells head bodies spelled → Holds journal SECOND_FORMAT head bodies file
