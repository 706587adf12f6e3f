-- The chunk that the place falls into has given the item.
use Rattle.std.proofs.Common.{◌≡◌, ◌*◌, ◌/◌, ℕ, get_or, arith, refl, ap}
use Rattle.std.specs.Vec.{vec_items, vec_len}
use Rattle.chunk_list.specs.Chunks.{block}
use Rattle.chunk_list.proofs.Blocks.{behind_block, same_block}
use Rattle.chunk_list.proofs.Edits.{edit, edited, new_at, same_len, starts_with, take_joined, value_here}
use Rattle.chunk_list.proofs.Pieces.{start_at-later, start_at-most}
use Rattle.chunk_list.proofs.room.take_out.Goals as goal

pub remove-item-requires : goal.remove-item-requires
remove-item-requires g c =
    let old = c.index_mut-chunk.result.now
    in omega (arith, c.locate-at.ensures.before c.requires.place old, ap vec_len c.index_mut-chunk.ensures.value)

-- the later chunks of the block begin behind the item
pub shift-requires-clause-fits : goal.shift-requires-clause-fits
shift-requires-clause-fits g c k gt lt near =
    let s = c.requires.laid_out.starts_are in
    let chunks = c.args.chunks.now.items in
    let bases = c.args.starts.now.bases.items in
    let at = c.locate-at.result.0 in
    let old = c.index_mut-chunk.result.now in
    let same : get_or bases (k / block) 0 ≡ get_or bases (at / block) 0 =
    ap (λ (b : ℕ). get_or bases b 0) (same_block at k (omega arith) near) in (
      omega (
        arith,
        same,
        s.begins k (omega (arith, lt, s.as_many)),
        s.begins at c.locate-at.ensures.within,
        start_at-later vec_items chunks at k old c.locate-at.ensures.within gt,
        c.locate-at.ensures.before c.requires.place old,
        (get_or chunks at old).ok.0,
      ),
      omega (
        arith,
        s.begins k (omega (arith, lt, s.as_many)),
        start_at-most vec_items chunks k,
        c.requires.fits,
      ),
    )

-- and so do the later blocks
pub shift-requires-clause-blocks_fit : goal.shift-requires-clause-blocks_fit
shift-requires-clause-blocks_fit g c b gt lt =
    let s = c.requires.laid_out.starts_are in
    let chunks = c.args.chunks.now.items in
    let at = c.locate-at.result.0 in
    let old = c.index_mut-chunk.result.now in (
      omega (
        arith,
        s.blocks b lt,
        start_at-later vec_items chunks at (b * block) old c.locate-at.ensures.within (behind_block at b gt),
        c.locate-at.ensures.before c.requires.place old,
        (get_or chunks at old).ok.0,
      ),
      omega (arith, s.blocks b lt, start_at-most vec_items chunks (b * block), c.requires.fits),
    )

pub returns : goal.returns
returns g c =
    let l = c.requires.laid_out in
    let old = c.index_mut-chunk.result.now in
    let e = edit c.remove-item.new.self l c.locate-at.ensures c.index_mut-chunk.ensures.value
    c.remove-item.ensures.capacity in
    let held = l.chunks_are.held c.locate-at.result.0 old c.locate-at.ensures.within in
    record {
      value = value_here e c.requires.place c.remove-item.result c.remove-item.ensures.value;
      items = take_joined e c.requires.place c.remove-item.ensures.items;
      chunks = edited e (omega (arith, c.remove-item.ensures.len, same_len e old, held.short));
      short = λ d. omega (arith, ap vec_len (new_at e d), c.remove-item.ensures.len, same_len e old, held.short);
      starts = starts_with e c.shift.new.starts.inside.items c.shift.new.starts.bases.items c.shift.ensures.len
          c.shift.ensures.blocks c.shift.ensures.low
          (λ k gt lt. omega (arith, c.shift.ensures.high k gt lt, c.remove-item.ensures.len)) c.shift.ensures.blocks_low
          (λ b gt lt. omega (arith, c.shift.ensures.blocks_high b gt lt, c.remove-item.ensures.len));
      len = refl;
      capacity = refl;
      starts_capacity = c.shift.ensures.capacity;
      blocks_capacity = c.shift.ensures.blocks_capacity;
    }
