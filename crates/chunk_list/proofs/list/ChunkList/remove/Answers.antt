-- A chunk that gave its last item went out, unless it is the first.
use Rattle.std.proofs.Common.{◌≡◌, ◌+◌, ◌-◌, ◌∙◌, length, take, arith, ap, sym}
use Rattle.std.proofs.lemmas.List.{take-take}
use Rattle.std.proofs.lemmas.List.Edits.{length-remove}
use Rattle.chunk_list.specs.Chunks.{joined}
use Rattle.chunk_list.proofs.Counting.{still_known}
use Rattle.chunk_list.proofs.Edits.{settled, settled_some}
use Rattle.chunk_list.proofs.Turned.{all_stay, can_turn}
use Rattle.chunk_list.proofs.list.ChunkList.remove.Goals as goal

pub invariant_of-self : goal.invariant_of-self
invariant_of-self g c =
    let v = c.self.invariant in
    let t = c.take_out-at.ensures in
    let s = c.set_out.ensures in
    let place = rw (← c.self.view_is) at c.requires in
    let long = length-remove (joined c.self.inside.chunks.items) c.args.place place in
    record {
      laid_out = record { chunks_are = s.same.1; starts_are = c.recount.ensures.starts };
      turns = can_turn v.turns t.len t.capacity s.turned (c.recount.ensures.capacity ∙ t.starts_capacity)
          (c.recount.ensures.blocks_capacity ∙ t.blocks_capacity) (λ _. omega (arith, s.long, t.chunks.within, c.if-at-gt0.true, c.set_out.new.chunks.ok.0));
      counted = omega (arith, v.counted, ap length s.same.0, ap length t.items, long);
      enough = omega (arith, v.enough, t.len, c.div_ceil-needed.ensures, s.needed);
      fits = omega (arith, v.fits);
    }

pub invariant_of-self-else-at-gt0 : goal.invariant_of-self-else-at-gt0
invariant_of-self-else-at-gt0 g c =
    let v = c.self.invariant in
    let t = c.take_out-at.ensures in
    let place = rw (← c.self.view_is) at c.requires in
    let long = length-remove (joined c.self.inside.chunks.items) c.args.place place in
    record {
      laid_out = record {
        chunks_are = settled c.take_out-at.new.chunks.items c.take_out-at.result.0 t.chunks
            (λ d. record { short = t.short d; some = λ later. absurd (omega (arith, c.if-at-gt0.false)) });
        starts_are = t.starts;
      };
      turns = can_turn v.turns t.len t.capacity (all_stay v.turns) t.starts_capacity t.blocks_capacity
          (λ more. omega (arith, v.turns.first more, t.len));
      counted = omega (arith, v.counted, ap length t.items, long);
      enough = omega (arith, v.enough, t.len);
      fits = omega (arith, v.fits);
    }

pub recount-requires-clause-fits : goal.recount-requires-clause-fits
recount-requires-clause-fits g c =
    let v = c.self.invariant in
    let place = rw (← c.self.view_is) at c.requires in
    let long = length-remove (joined c.self.inside.chunks.items) c.args.place place in
    omega (arith, v.counted, v.fits, ap length c.set_out.ensures.same.0, ap length c.take_out-at.ensures.items, long)

pub invariant_of-self-else-len-eq0 : goal.invariant_of-self-else-len-eq0
invariant_of-self-else-len-eq0 g c =
    let v = c.self.invariant in
    let t = c.take_out-at.ensures in
    let place = rw (← c.self.view_is) at c.requires in
    let long = length-remove (joined c.self.inside.chunks.items) c.args.place place in
    record {
      laid_out = record {
        chunks_are = settled_some c.take_out-at.new.chunks.items c.take_out-at.result.0 c.index.result.now t.chunks
            c.index.ensures (λ none. c.if-len-eq0.false (c.len.ensures ∙ none)) t.short;
        starts_are = t.starts;
      };
      turns = can_turn v.turns t.len t.capacity (all_stay v.turns) t.starts_capacity t.blocks_capacity
          (λ more. omega (arith, v.turns.first more, t.len));
      counted = omega (arith, v.counted, ap length t.items, long);
      enough = omega (arith, v.enough, t.len);
      fits = omega (arith, v.fits);
    }

pub recount-requires-clause-known : goal.recount-requires-clause-known
recount-requires-clause-known g c =
    let at = c.take_out-at.result.0 in
    let old = c.take_out-at.new.chunks.items in
    let new = c.set_out.new.chunks.items in
    let last : at - 1 + 1 ≡ at = omega (arith, c.if-at-gt0.true) in
    still_known old new c.take_out-at.new.starts.inside.items c.take_out-at.new.starts.bases.items (at - 1)
    c.take_out-at.ensures.starts (omega (arith, c.take_out-at.ensures.chunks.within, last))
    (sym (take-take (at - 1) at new (omega arith)) ∙ ap (take (at - 1)) c.set_out.ensures.front
    ∙ take-take (at - 1) at old (omega arith))
