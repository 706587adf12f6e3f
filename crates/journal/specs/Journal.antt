-- The journal of an image, and a file that holds the image.
use Rattle.std.specs.Prelude.{◌≡◌, ◌⊎◌, ℕ, ◌+◌, ◌-◌, ◌<◌, ◌^◌, min, List, [], ◌∷◌, ◌++◌, length}
use Rattle.disk_model.specs.Device.{Device, File, IsSettled, file_of}
use Rattle.disk_model.specs.Moments.{LeavesOnly}
use Rattle.journal.specs.Image.{Head, ReadsAs, ReadsWithOrWithout, up_to_gate, image}
use Rattle.journal.specs.Damage.{DamagedAt}
use Rattle.journal.specs.declared.layout.TheConstants.{BEFORE_BODY_BYTES, SECOND_FORMAT}

-- a journal: the image's length up to and with the closed gate, and its limit
pub record Extent : Type 0 where
  pub length : ℕ
  pub limit : ℕ

-- the journal of an image
pub record IsExtent (format : ℕ) (head : Head) (bodies : List (List ℕ)) (journal : Extent) : Type 0 where
  pub all : journal.length ≡ length (up_to_gate format head bodies) + 1
  pub limit : journal.limit ≡ head.limit

-- the file holds the image of this journal, and a crash leaves just what a read gives
pub record Holds (journal : Extent) (format : ℕ) (head : Head) (bodies : List (List ℕ)) (file : File) : Type 0 where
  pub reads : ReadsAs format head bodies file.seen
  pub extent : IsExtent format head bodies journal
  pub durable : IsSettled file

-- the file holds some image of this journal
abbrev pub IsHeld : Extent → File → Type 0
IsHeld journal file = (format : ℕ) × (head : Head) × (bodies : List (List ℕ)) × Holds journal format head bodies file

-- the image that was held with the journal before is held with the one after it, with one body more
abbrev pub HoldsOneMore : List ℕ → Extent → Extent → File → File → Type 0
HoldsOneMore body old new before after =
    (format : ℕ) (head : Head) (bodies : List (List ℕ)) → Holds old format head bodies before
    → Holds new format head (bodies ++ body ∷ []) after

-- a crash at any moment leaves the image that was held, or that with one body more
abbrev pub LeavesWithOrWithout : List ℕ → Extent → Device → Device → Type 0
LeavesWithOrWithout body journal old new =
    (format : ℕ) (head : Head) (bodies : List (List ℕ)) → Holds journal format head bodies (file_of old)
    → LeavesOnly old new (ReadsWithOrWithout body format head bodies)

-- the length that the image has with one more body of n bytes
abbrev pub need : Extent → ℕ → ℕ
need journal n = min (journal.length + BEFORE_BODY_BYTES + n) (2 ^ 64 - 1)

-- a body of n bytes more would exceed the image's limit
abbrev pub IsFull : Extent → ℕ → Type 0
IsFull journal n = journal.limit < need journal n

-- a file that an anew begun image leaves on the way: the old one, one that does not read from its first byte on, or the
-- empty image
abbrev pub IsOnTheWay : List ℕ → Head → List ℕ → Type 0
IsOnTheWay old head file = (file ≡ old) ⊎ (DamagedAt 0 file ⊎ (file ≡ image SECOND_FORMAT head []))
