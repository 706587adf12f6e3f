-- The chunks behind a list, one after another, and the spare ones beside them.
use Rattle.std.specs.Prelude.{◌≡◌, ℕ, ◌+◌, ◌*◌, ◌/◌, ◌^◌, ◌<◌, ◌≤◌, List, length, take, slice_index, slice_index_or}
use Rattle.std.specs.Prelude.{vec_len, vec_capacity}
use Rattle.std.specs.List.{All, flat_map}
use Rattle.std.specs.Global.{Vec}
use Rattle.std.specs.Vec.{vec_items}
use Rattle.chunk_list.specs.declared.list.TheConstants.{CHUNK}
use Rattle.chunk_list.specs.declared.starts.TheConstants.{BLOCK}

-- so many items fill a chunk
abbrev pub full : ℕ
full = CHUNK

-- so many chunks in a row are a block
abbrev pub block : ℕ
block = BLOCK

-- where the k-th chunk begins: so far inside its block, and the block somewhere in the list
abbrev pub begin_of : List ℕ → List ℕ → ℕ → ℕ
begin_of inside bases k = slice_index bases (k / block) + slice_index inside k

-- where the k-th piece begins in the whole
abbrev pub start_at : {X T : Type 0} → (X → List T) → List X → ℕ → ℕ
start_at f xs k = length (flat_map f (take k xs))

-- a run is some items of the list from a place on, and not none where there are some
pub record IsRun {T : Type 0} (items : List T) (begin : ℕ) (run : List T) : Type 0 where
  pub within : (k : ℕ) → k < length run → begin + k < length items
  pub same : (k : ℕ) (d : T) → k < length run → slice_index_or run k d ≡ slice_index_or items (begin + k) d
  pub some : begin < length items → 0 < length run

module _ {T : Type 0} where
  -- the chunks, one after another
  abbrev pub joined : List (Vec T) → List T
  joined chunks = flat_map vec_items chunks

  -- a chunk has memory for one item more than fill it
  abbrev pub IsWide : Vec T → Type 0
  IsWide chunk = full < vec_capacity chunk

  -- a chunk that no item needs yet
  pub record IsSpare (chunk : Vec T) : Type 0 where
    pub wide : IsWide chunk
    pub empty : vec_len chunk ≡ 0

  -- the k-th chunk holds no more items than fill it, and some, unless it is the first
  pub record IsHeld (k : ℕ) (chunk : Vec T) : Type 0 where
    pub short : vec_len chunk ≤ full
    pub some : 0 < k → 0 < vec_len chunk

  -- the chunks of a list
  pub record AreChunks (chunks : List (Vec T)) : Type 0 where
    pub wide : All IsWide chunks
    pub held : (k : ℕ) (d : Vec T) → k < length chunks → IsHeld k (slice_index_or chunks k d)

  -- the places where the chunks begin, and their blocks
  pub record AreStarts (chunks : List (Vec T)) (inside bases : List ℕ) : Type 0 where
    pub as_many : length inside ≡ length chunks
    pub enough : length chunks ≤ length bases * block
    pub no_more : length bases * block < length chunks + block
    pub begins : (k : ℕ) → k < length chunks → begin_of inside bases k ≡ start_at vec_items chunks k
    pub blocks : (b : ℕ) → b < length bases → slice_index bases b ≡ start_at vec_items chunks (b * block)

  -- the chunks, and where they begin
  pub record AreLaidOut (chunks : List (Vec T)) (inside bases : List ℕ) : Type 0 where
    pub chunks_are : AreChunks chunks
    pub starts_are : AreStarts chunks inside bases

  -- each spare chunk can come in among the others, and each of these can go out, without memory; the first chunk is in
  -- use from the beginning
  pub record CanTurn (chunks spare : Vec (Vec T)) (inside bases : Vec ℕ) : Type 0 where
    pub each : All IsSpare spare.items
    pub chunks_fit : vec_len chunks + vec_len spare ≤ vec_capacity chunks
    pub spare_fit : vec_len chunks + vec_len spare ≤ vec_capacity spare
    pub starts_fit : vec_len chunks + vec_len spare ≤ vec_capacity inside
    pub blocks_fit : vec_len chunks + vec_len spare ≤ vec_capacity bases * block
    pub first : 0 < vec_len spare → 0 < vec_len chunks

  -- and there are as many places in all chunks as the items and the room need
  pub record IsSound (chunks spare : Vec (Vec T)) (inside bases : Vec ℕ) (len room : ℕ) : Type 0 where
    pub laid_out : AreLaidOut chunks.items inside.items bases.items
    pub turns : CanTurn chunks spare inside bases
    pub counted : len ≡ length (joined chunks.items)
    pub enough : len + room ≤ (vec_len chunks + vec_len spare) * full
    pub fits : len + room < 2 ^ 64
