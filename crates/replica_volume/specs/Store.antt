-- What is found of three files, with the steps that the bodies say.
use Rattle.std.specs.Prelude.{◌≡◌, ◌≢◌, ◌⊎◌, ℕ, ◌+◌, List, [], ◌∷◌, length, Result, Ok, Err}
use Rattle.compaction.specs.Images.{bodies_of, uids_after}
use Rattle.conflicts.specs.State.{History, Text}
use Rattle.disks.specs.declared.name.DiskName.{DiskName}
use Rattle.disks.specs.declared.trio.Trio.{Trio}
use Rattle.disks.specs.Joint.{JointMoment, AreCrashImages}
use Rattle.journal.specs.Image.{Head, header_bytes}
use Rattle.journal.specs.declared.layout.TheConstants.{FIRST_FORMAT, SECOND_FORMAT}
use Rattle.volume.specs.Store.{FoundImages, found_of}
use Rattle.volume.specs.Store.FoundImages.{Blank as NoImages, Damaged as BrokenImage, Stands as StandingImage}
use Rattle.replica_core.specs.Replica.{Found, Stored}
use Rattle.replica_core.specs.Replica.Found.{Blank as Nothing, Damaged as Broken, Stands}
use Rattle.replica_volume.specs.Steps.{Chronicle, steps_of, state_at}

-- What is found of a store: no database; damage of one of the files, at a place; or a history, with the side and the
-- format of its image, and its header.
pub data StoreFound : Type 0 where
  Blank : StoreFound
  Damaged : DiskName → ℕ → StoreFound
  Holds : DiskName → ℕ → Head → History → StoreFound

-- the steps that the image on this side says; or it is damaged where a body has no reading
abbrev pub holds_steps : DiskName → ℕ → Head → Result Chronicle ℕ → StoreFound
holds_steps side format head (Ok read) = Holds side format head read.steps
holds_steps side format head (Err place) = Damaged side (length (header_bytes format head) + place)

abbrev pub with_steps : FoundImages → StoreFound
with_steps NoImages = Blank
with_steps (BrokenImage disk place) = Damaged disk place
with_steps (StandingImage side format head bodies) = holds_steps side format head (steps_of format head bodies)

-- this is found of the image of format 2 on the other side that spells the steps which these bodies say in format 1
pub record IsRespelling (side : DiskName) (head : Head) (bodies : List (List ℕ)) (new : FoundImages) : Type 0 where
  pub history : History
  pub uids : List Text
  pub said : steps_of FIRST_FORMAT head bodies ≡ Ok (record { steps = history; uids = uids })
  pub to : DiskName
  pub other : to ≢ side
  pub found : new ≡ StandingImage to SECOND_FORMAT head (bodies_of (head.uid ∷ []) history)
  pub says : steps_of SECOND_FORMAT head (bodies_of (head.uid ∷ []) history)
      ≡ Ok (record { steps = history; uids = uids_after (head.uid ∷ []) history })

-- the store had format 1, and was moved
abbrev pub IsMoved : FoundImages → FoundImages → Type 0
IsMoved NoImages new = ⊥
IsMoved (BrokenImage disk place) new = ⊥
IsMoved (StandingImage side format head bodies) new = (format ≡ FIRST_FORMAT) × IsRespelling side head bodies new

abbrev pub IsSameOrMoved : FoundImages → FoundImages → Type 0
IsSameOrMoved old new = (new ≡ old) ⊎ IsMoved old new

-- what is found of three files
abbrev pub store_of : Trio (List ℕ) → StoreFound
store_of files = with_steps (found_of files)

-- what a store of this header and history stands for
abbrev pub stored_at : Head → History → Stored
stored_at head h = record { state = state_at head h; limit = head.limit }

-- the same as a replica is opened: a history leaves a state, and the header has the limit
abbrev pub opened_as : StoreFound → Found Stored
opened_as Blank = Nothing
opened_as (Damaged disk place) = Broken
opened_as (Holds side format head h) = Stands (stored_at head h)

-- what opening three files finds
abbrev pub opens_as : Trio (List ℕ) → Found Stored
opens_as files = opened_as (store_of files)

-- opening finds this after some crash at this moment
abbrev pub MayOpenAs : JointMoment → Found Stored → Type 0
MayOpenAs moment o = (files : Trio (List ℕ)) × AreCrashImages moment files × (o ≡ opens_as files)
