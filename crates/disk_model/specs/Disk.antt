-- What a crash may leave of a file, and what a write and a cut do to it.
use Rattle.std.specs.Prelude.{◌≡◌, ℕ, ◌+◌, ◌≤◌, ◌<◌, Bool, false, ◌&&◌, ◌||◌, nat_le, nat_lt, min, max, List, [], ◌∷◌}
use Rattle.std.specs.Prelude.{◌++◌, length, take, drop, slice_index}

-- the bytes of the last sync, and since then: each written range by its place and its length, the least and the
-- greatest length
pub record Unsynced : Type 0 where
  pub synced : List ℕ
  pub ranges : List (ℕ × ℕ)
  pub least : ℕ
  pub greatest : ℕ

-- the place lies in one of the ranges
abbrev pub is_touched : List (ℕ × ℕ) → ℕ → Bool
is_touched [] k = false
is_touched (r ∷ rs) k = (nat_le r.0 k && nat_lt k (r.0 + r.1)) || is_touched rs k

-- What a crash may leave: a length between the least and the greatest, and the bytes of the last sync at each place
-- that was always inside of the file and that no write touched. All other bytes are open.
pub record IsCrashImage (u : Unsynced) (image : List ℕ) : Type 0 where
  pub no_shorter : u.least ≤ length image
  pub no_longer : length image ≤ u.greatest
  pub same : (k : ℕ) → k < u.least → is_touched u.ranges k ≡ false → slice_index image k ≡ slice_index u.synced k

-- after a sync: a crash leaves these bytes
abbrev pub settled : List ℕ → Unsynced
settled bytes = record { synced = bytes; ranges = []; least = length bytes; greatest = length bytes }

-- after a write of n bytes
abbrev pub wrote : ℕ → ℕ → Unsynced → Unsynced
wrote at n u = record {
  synced = u.synced;
  ranges = u.ranges
      ++ (at, n) ∷ [];
  least = u.least;
  greatest = max u.greatest (at + n);
}

-- after a cut to a length
abbrev pub was_cut : ℕ → Unsynced → Unsynced
was_cut to u = record { synced = u.synced; ranges = u.ranges; least = min u.least to; greatest = u.greatest }

-- the file with these bytes in the place of those that stood there
abbrev pub overwritten : List ℕ → ℕ → List ℕ → List ℕ
overwritten file at bytes = take at file ++ bytes ++ drop (at + length bytes) file

-- a write of n bytes that was cut short: any bytes in the range, the same outside of it
pub record Torn (at n : ℕ) (old new : List ℕ) : Type 0 where
  pub no_shorter : length old ≤ length new
  pub no_longer : length new ≤ max (length old) (at + n)
  pub same : (k : ℕ) → k < length old → is_touched ((at, n) ∷ []) k ≡ false → slice_index new k ≡ slice_index old k

-- a cut that may have stopped on its way: some length between, the same bytes before the place, any bytes after it
pub record Cut (to : ℕ) (old new : List ℕ) : Type 0 where
  pub no_shorter : min to (length old) ≤ length new
  pub no_longer : length new ≤ length old
  pub same : (k : ℕ) → k < to → k < length old → slice_index new k ≡ slice_index old k

-- any bytes at all
abbrev pub IsAny : List ℕ → Type 0
IsAny image = Unit {0}
