-- A chunk that had one item too many was relieved of some.
use Rattle.std.proofs.Common.{◌≡◌, ◌+◌, ◌∙◌, length, arith, ap}
use Rattle.std.proofs.lemmas.List.Edits.{length-insert}
use Rattle.chunk_list.specs.Chunks.{joined}
use Rattle.chunk_list.proofs.Places.{some_chunk}
use Rattle.chunk_list.proofs.Turned.{can_turn}
use Rattle.chunk_list.proofs.list.ChunkList.insert_at.Goals as goal

pub invariant_of-self : goal.invariant_of-self
invariant_of-self g c =
    let v = c.self.invariant in
    let old = joined c.self.inside.chunks.items in
    let new = c.relieve.new.chunks in
    let p = c.put_in-at.ensures in
    let r = c.relieve.ensures in
    let place = rw (← c.self.view_is) at c.requires.place in
    let room = rw (← c.self.view_is) at c.requires.room in
    let long : length (joined new.items) ≡ length old + 1 =
    omega (arith, ap length r.same, ap length p.items, length-insert old c.args.spot.place c.args.item place) in
    record {
      laid_out = record { chunks_are = r.chunks; starts_are = r.starts };
      turns = can_turn v.turns p.len p.capacity r.turned (r.starts_capacity ∙ p.starts_capacity)
          (r.blocks_capacity ∙ p.blocks_capacity)
          (λ _. omega (arith, new.ok.0, some_chunk new.items (omega (arith, long))));
      counted = omega (arith, v.counted, long);
      enough = omega (arith, v.enough, r.long, p.len, room);
      fits = omega (arith, v.fits, room);
    }
