-- The chunk that the place falls into has the item.
use Rattle.std.proofs.Common.{◌*◌, arith, refl, ap}
use Rattle.std.specs.Vec.{vec_items, vec_len}
use Rattle.chunk_list.specs.Chunks.{block}
use Rattle.chunk_list.proofs.Edits.{edit, edited, new_at, put_joined, same_len, starts_with}
use Rattle.chunk_list.proofs.Pieces.{start_at-most}
use Rattle.chunk_list.proofs.room.put_in.Goals as goal

pub seat-at-requires-clause-some : goal.seat-at-requires-clause-some
seat-at-requires-clause-some g c = omega (arith, c.requires.some, c.args.chunks.now.ok.0)

pub put-requires-clause-place : goal.put-requires-clause-place
put-requires-clause-place g c = let old = c.index_mut-chunk.result.now
    in omega (arith, c.seat-at.ensures.up_to old, ap vec_len c.index_mut-chunk.ensures.value)

pub shift-requires-clause-fits : goal.shift-requires-clause-fits
shift-requires-clause-fits g c k gt lt near =
    let s = c.requires.laid_out.starts_are in (
      omega arith,
      omega (
        arith,
        s.begins k (omega (arith, lt, s.as_many)),
        start_at-most vec_items c.args.chunks.now.items k,
        c.requires.fits,
      ),
    )

pub shift-requires-clause-blocks_fit : goal.shift-requires-clause-blocks_fit
shift-requires-clause-blocks_fit g c b gt lt = (
  omega arith,
  omega (
    arith,
    c.requires.laid_out.starts_are.blocks b lt,
    start_at-most vec_items c.args.chunks.now.items (b * block),
    c.requires.fits,
  ),
)

pub returns : goal.returns
returns g c =
    let l = c.requires.laid_out in
    let old = c.index_mut-chunk.result.now in
    let e = edit c.put.new.items l c.seat-at.ensures c.index_mut-chunk.ensures.value c.put.ensures.capacity in
    let held = l.chunks_are.held c.seat-at.result.0 old c.seat-at.ensures.within in
    record {
      items = put_joined e c.args.item c.put.ensures.items;
      chunks = edited e (omega (arith, c.put.ensures.len, same_len e old, held.short));
      some = λ d. omega (arith, ap vec_len (new_at e d), c.put.ensures.len);
      starts = starts_with e c.shift.new.starts.inside.items c.shift.new.starts.bases.items c.shift.ensures.len
          c.shift.ensures.blocks c.shift.ensures.low
          (λ k gt lt. omega (arith, c.shift.ensures.high k gt lt, c.put.ensures.len)) c.shift.ensures.blocks_low
          (λ b gt lt. omega (arith, c.shift.ensures.blocks_high b gt lt, c.put.ensures.len));
      len = refl;
      capacity = refl;
      starts_capacity = c.shift.ensures.capacity;
      blocks_capacity = c.shift.ensures.blocks_capacity;
    }
