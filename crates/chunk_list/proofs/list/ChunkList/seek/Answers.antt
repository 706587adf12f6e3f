-- First the chunk, then the place inside it.
use Rattle.std.proofs.Common.{◌≡◌, ◌+◌, ◌∙◌, ◌^◌, ◌<◌, ◌≤◌, Some, length, get_or, arith, ap}
use Rattle.std.specs.Option.{option_copied}
use Rattle.std.specs.Prelude.{slice_get}
use Rattle.std.specs.Vec.{vec_items}
use Rattle.chunk_list.specs.Chunks.{joined}
use Rattle.chunk_list.proofs.Pieces.{length-pieces}
use Rattle.chunk_list.proofs.list.ChunkList.seek.Goals as goal
use Rattle.chunk_list.proofs.list.ChunkList.seek.Goals.{in-Some, in-None}

pub returns : goal.returns
returns g c =
    let v = c.self.invariant in
    let chunks = c.self.inside.chunks.items in
    let few : length chunks ≤ length (joined chunks) + 1 =
    length-pieces vec_items chunks
    (λ k d some lt. omega (arith, (v.laid_out.chunks_are.held k d lt).some some, (get_or chunks k d).ok.0)) in
    record {
      within = rw (← c.self.view_is) c.look_in-place.ensures.within;
      before = rw (← c.self.view_is) c.look_in-place.ensures.before;
      after = rw (← c.self.view_is) c.look_in-place.ensures.after;
      item = elim c.match-item.branch [
        | in-Some w ↦
            let told : Some w.in-Some.item.now ≡ slice_get (joined chunks) c.look_in-place.result.0 =
            rw w.in-Some.is at c.look_in-place.ensures.item in
            rw (← c.self.view_is) (ap option_copied w.item-is ∙ told)
        | in-None w ↦ ap option_copied w.item-is ∙ w.get-item.ensures
      ];
      looks = λ k fits.
          let all : length (joined chunks) < 2 ^ k = rw (← c.self.view_is) at fits in
          omega (
            arith,
            c.chunk_near-chunk.ensures.looks k (omega (arith, few, all)),
            c.look_in-place.ensures.looks k all,
          );
    }
