-- What is done to two chunks that stand side by side.
use Rattle.std.specs.Prelude.{◌≡◌, ℕ, ◌+◌, ◌<◌, ◌≤◌, List, length, slice_index_or, vec_len, vec_capacity}
use Rattle.std.specs.Global.{Vec}
use Rattle.std.specs.List.{All}
use Rattle.chunk_list.specs.Chunks.{IsSpare, IsWide, full, joined}

module _ {T : Type 0} where
  -- the list is the same, and `count` items of the chunk at `from` are in the one at `to` now
  pub record IsGiven (old : List (Vec T)) (from to count : ℕ) (new : List (Vec T)) : Type 0 where
    pub same : joined new ≡ joined old
    pub long : length new ≡ length old
    pub wide : All IsWide new
    pub from_len : (d : Vec T) → vec_len (slice_index_or new from d) + count ≡ vec_len (slice_index_or old from d)
    pub to_len : (d : Vec T) → vec_len (slice_index_or new to d) ≡ vec_len (slice_index_or old to d) + count
    pub others : (k : ℕ) (d : Vec T) → (k ≡ from → ⊥) → (k ≡ to → ⊥) → slice_index_or new k d ≡ slice_index_or old k d

  -- another chunk than the one at `at` has a place free
  pub record HasFree (chunks : List (Vec T)) (at free : ℕ) : Type 0 where
    pub within : free < length chunks
    pub apart : free ≡ at → ⊥
    pub some : (d : Vec T) → vec_len (slice_index_or chunks free d) < full

  -- no chunk as near as that has `least` places free, but perhaps the one at `at`
  abbrev pub NoneFree : List (Vec T) → ℕ → ℕ → ℕ → Type 0
  NoneFree chunks at reach least = (k : ℕ) (d : Vec T) → k < length chunks → (k ≡ at → ⊥) → k ≤ at + reach
      → at ≤ k + reach → full < vec_len (slice_index_or chunks k d) + least

  -- spare chunks may have come in among the others, and others may have gone out, in the memory that there was
  pub record AreTurned (chunks spare new_chunks new_spare : Vec (Vec T)) : Type 0 where
    pub each : All IsSpare new_spare.items
    pub fewer : vec_len new_chunks + vec_len new_spare ≤ vec_len chunks + vec_len spare
    pub chunks_capacity : vec_capacity new_chunks ≡ vec_capacity chunks
    pub spare_capacity : vec_capacity new_spare ≡ vec_capacity spare
