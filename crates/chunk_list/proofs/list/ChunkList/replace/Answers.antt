-- The chunk that the place falls into has the other item.
use Rattle.std.proofs.Common.{◌∙◌, length, get_or, set, arith, refl, ap, sym}
use Rattle.std.proofs.lemmas.List.{length-set}
use Rattle.std.specs.Vec.{vec_len, with_item}
use Rattle.chunk_list.specs.Chunks.{joined}
use Rattle.chunk_list.proofs.Edits.{edit, edited, exchange_joined, new_at, same_len, settled, starts_with, value_here}
use Rattle.chunk_list.proofs.Turned.{all_stay, can_turn}
use Rattle.chunk_list.proofs.list.ChunkList.replace.Goals as goal

pub invariant_of-self : goal.invariant_of-self
invariant_of-self g c =
    let v = c.self.invariant in
    let at = c.locate-at.result.0 in
    let old = c.index_mut-chunk.result.now in
    let inside = c.locate-at.result.1 in
    let place = rw (← c.self.view_is) at c.requires in
    let e = edit (with_item old inside c.replace.new.dest) c.self.invariant.laid_out c.locate-at.ensures
    c.index_mut-chunk.ensures.value refl in
    let held = v.laid_out.chunks_are.held at old c.locate-at.ensures.within in
    let same = exchange_joined e place c.args.item (ap (set old.items inside) c.replace.ensures.after) in
    record {
      laid_out = record {
        chunks_are = settled _ at (edited e (omega (arith, same_len e old, held.short))) (λ d.
            let long = ap vec_len (new_at e d) in
            record {
              short = omega (arith, long, same_len e old, held.short);
              some =
                  λ later. omega (arith, long, same_len e old, held.some later);
            });
        starts_are = starts_with e c.self.inside.starts.inside.items c.self.inside.starts.bases.items refl refl
            (λ k le. refl) (λ k gt lt. refl) (λ b le. refl) (λ b gt lt. refl);
      };
      turns = can_turn v.turns refl refl (all_stay v.turns) refl refl v.turns.first;
      counted = omega (
        arith,
        v.counted,
        ap length same,
        length-set (joined c.self.inside.chunks.items) c.args.place c.args.item,
      );
      enough = v.enough;
      fits = v.fits;
    }

pub returns : goal.returns
returns g c =
    let old = c.index_mut-chunk.result.now in
    let inside = c.locate-at.result.1 in
    let place = rw (← c.self.view_is) at c.requires in
    let e = edit (with_item old inside c.replace.new.dest) c.self.invariant.laid_out c.locate-at.ensures
    c.index_mut-chunk.ensures.value refl in
    record {
      value =
          rw (← c.self.view_is)
          (value_here e place c.replace.result (c.replace.ensures.value ∙ c.index_mut.ensures.value
          ∙ ap (get_or old.items inside) (sym c.replace.ensures.value)));
      items = rw (← c.self.view_is)
          (exchange_joined e place c.args.item (ap (set old.items inside) c.replace.ensures.after));
      room = rw (← c.self.view_is) refl;
    }
