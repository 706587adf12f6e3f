-- A place in a row of blocks.
use Rattle.std.proofs.Common.{◌≡◌, ℕ, ◌+◌, ◌*◌, ◌/◌, ◌%◌, ◌<◌, ◌≤◌, arith}
use Rattle.chunk_list.specs.Chunks.{block}

-- a block that begins behind a chunk is behind the chunk's block
pub block_behind : (i b : ℕ) → i < b * block → i / block < b
block_behind i b lt = omega arith

-- a block that begins at a chunk or before it is not behind the chunk's block
pub block_below : (i b : ℕ) → b * block ≤ i → b ≤ i / block
block_below i b le = omega arith

-- a block that is not behind the chunk's block begins at the chunk or before it
pub block_begins : (i b : ℕ) → b < i / block + 1 → b * block ≤ i
block_begins i b lt = omega arith

-- a block that is behind the chunk's block begins behind the chunk
pub behind_block : (i b : ℕ) → i / block < b → i < b * block
behind_block i b lt = omega arith

-- a later chunk that begins before the next block is of the same block
pub same_block : (i k : ℕ) → i ≤ k → k < (i / block + 1) * block → k / block ≡ i / block
same_block i k le lt = omega arith

-- and one from there on is of a later block
pub later_block : (i k : ℕ) → (i / block + 1) * block ≤ k → i / block < k / block
later_block i k le = omega arith

-- an earlier chunk is of no later block
pub earlier_block : (i k : ℕ) → k ≤ i → k / block ≤ i / block
earlier_block i k le = omega arith

-- in so many blocks as begin before a chunk, it is in the last one
pub last_block : (k n : ℕ) → k < n * block → n * block ≤ k + block → k / block + 1 ≡ n
last_block k n lt le = omega arith

-- where a block begins, all blocks before are full
pub full_blocks : (k n : ℕ) → k % block ≡ 0 → k ≤ n * block → n * block < k + block → n * block ≡ k
full_blocks k n e le lt = omega arith

-- and elsewhere a chunk is in the last one
pub in_block : (k n : ℕ) → (k % block ≡ 0 → ⊥) → k ≤ n * block → k < n * block
in_block k n ne le = omega arith

-- so many blocks as reach just over a chunk hold it, and none more
pub enough_blocks : (k n : ℕ) → k / block + 1 ≡ n → (k + 1 ≤ n * block) × (n * block < k + 1 + block)
enough_blocks k n e = (omega arith, omega arith)

-- the blocks up to that of a chunk reach just over it
pub blocks_reach : (i : ℕ) → (i + 1 ≤ (i / block + 1) * block) × ((i / block + 1) * block < i + 1 + block)
blocks_reach i = (omega arith, omega arith)
