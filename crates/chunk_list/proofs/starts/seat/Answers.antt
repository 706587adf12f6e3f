-- A place from the start of the chunk on, and before its end.
use Rattle.std.proofs.Common.{◌<◌, length, arith}
use Rattle.std.specs.Vec.{vec_items}
use Rattle.chunk_list.proofs.Pieces.{start_at-most}
use Rattle.chunk_list.proofs.starts.seat.Goals as goal

pub at-begin-requires-clause-fits : goal.at-begin-requires-clause-fits
at-begin-requires-clause-fits g c =
    let within : c.args.spot.chunk < length c.args.chunks.now.items =
    omega (arith, c.if-spot-len.true, c.len.ensures, c.args.chunks.now.ok.0) in
    omega (
      arith,
      c.requires.starts.begins c.args.spot.chunk within,
      start_at-most vec_items c.args.chunks.now.items c.args.spot.chunk,
      c.requires.fits,
    )
