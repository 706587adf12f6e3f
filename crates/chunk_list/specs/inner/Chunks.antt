-- Beside specs/Chunks: words of private contracts and of proofs.
use Rattle.std.specs.Prelude.{◌≡◌, ℕ, ◌+◌, ◌*◌, ◌<◌, ◌≤◌, List, length, slice_index, slice_index_or}
use Rattle.std.specs.Prelude.{vec_len}
use Rattle.std.specs.List.{All}
use Rattle.std.specs.Global.{Vec}
use Rattle.std.specs.Vec.{vec_items}
use Rattle.chunk_list.specs.Chunks.{full, block, begin_of, start_at, joined, IsWide, IsHeld}

module _ {T : Type 0} where
  -- the chunks of a list, but that the one at `at` may be empty or have one item too many
  pub record AreChunksBut (chunks : List (Vec T)) (at : ℕ) : Type 0 where
    pub within : at < length chunks
    pub wide : All IsWide chunks
    pub top : (d : Vec T) → vec_len (slice_index_or chunks at d) ≤ full + 1
    pub others : (k : ℕ) (d : Vec T) → k < length chunks → (k ≡ at → ⊥) → IsHeld k (slice_index_or chunks k d)

  -- the same of those chunks that stand no further behind than the one at `last`
  pub record AreStartsUpTo (chunks : List (Vec T)) (inside bases : List ℕ) (last : ℕ) : Type 0 where
    pub within : last < length inside
    pub enough : length inside ≤ length bases * block
    pub begins : (k : ℕ) → k ≤ last → begin_of inside bases k ≡ start_at vec_items chunks k
    pub blocks : (b : ℕ) → b * block ≤ last → slice_index bases b ≡ start_at vec_items chunks (b * block)

  -- a place of the list is so far inside a chunk; the end of the list is the end of a chunk
  pub record IsAt (chunks : List (Vec T)) (place at inside : ℕ) : Type 0 where
    pub within : at < length chunks
    pub is : start_at vec_items chunks at + inside ≡ place
    pub up_to : (d : Vec T) → inside ≤ vec_len (slice_index_or chunks at d)
    pub before : place < length (joined chunks) → (d : Vec T) → inside < vec_len (slice_index_or chunks at d)
