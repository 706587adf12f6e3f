-- The moments of a disk: what a crash at each of them may leave.
--
-- Each call adds at most one moment. The earlier ones are kept in order, so that the k-th never changes its meaning.
use Rattle.std.specs.Prelude.{◌≡◌, ◌⊎◌, ℕ, List, [], ◌∷◌, ◌++◌}
use Rattle.disk_model.specs.Disk.{Unsynced, IsCrashImage}
use Rattle.disk_model.specs.Device.{Beside, Moment, moment, Device}

-- one moment more, and since then a crash may leave this
pub record Took (old new : Device) (u : Unsynced) : Type 0 where
  pub is : new.now ≡ u
  pub kept : new.beside ≡ old.beside
  pub added : new.past ≡ old.past ++ moment old.now old.beside ∷ []

-- no moment passed
pub record Stays (old new : Device) : Type 0 where
  pub is : new.now ≡ old.now
  pub kept : new.beside ≡ old.beside
  pub added : new.past ≡ old.past

-- a call that looks: a moment passed or none, and nothing else
abbrev pub Looked : Device → Device → Type 0
Looked old new = Took old new old.now ⊎ Stays old new

-- a call that failed: it was made, or a moment passed and nothing was done, or not even that
abbrev pub TookOrNot : Device → Device → Unsynced → Type 0
TookOrNot old new u = Took old new u ⊎ Looked old new

-- at each of these moments every image has P, and the files beside are these
abbrev pub Each : (List ℕ → Type 0) → Beside → List Moment → Type 0
Each P others [] = Unit {0}
Each P others (w ∷ ws) =
    (w.1 ≡ (moment w.0 others).1) × ((image : List ℕ) → IsCrashImage w.0 image → P image) × Each P others ws

-- a crash at any moment since old, that one and now among them, leaves an image that has P, and the files beside are as
-- they were
pub record LeavesOnly (old new : Device) (P : List ℕ → Type 0) : Type 0 where
  pub fresh : List Moment
  pub added : new.past ≡ old.past ++ fresh
  pub each : Each P old.beside fresh
  pub kept : new.beside ≡ old.beside
  pub here : (image : List ℕ) → IsCrashImage new.now image → P image
