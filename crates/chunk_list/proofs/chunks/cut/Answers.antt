-- The chunk and the spare one hold what the chunk held.
use Rattle.std.proofs.Common.{◌≡◌, ◌+◌, ◌≤◌, ◌++◌, [], List, Some, get_or, length, set, take, arith, ap, sym, subst, ◌∙◌, append-nil}
use Rattle.std.proofs.Common.{add-one}
use Rattle.std.proofs.lemmas.List.{length-set, nil_from_length, take-set}
use Rattle.std.proofs.lemmas.List.Edits.{length-insert}
use Rattle.std.proofs.lemmas.List.Elements.{All-pop}
use Rattle.std.specs.Global.{Vec}
use Rattle.std.specs.List.{All, insert}
use Rattle.std.specs.Vec.{vec_items, vec_len, vec_capacity}
use Rattle.chunk_list.specs.Chunks.{full, joined, AreChunks, IsSpare}
use Rattle.chunk_list.proofs.Pieces.{cut-joined, take-insert}
use Rattle.chunk_list.proofs.Turned.{cut_chunks}
use Rattle.chunk_list.proofs.chunks.cut.Goals as goal

pub returns : goal.returns
returns g c =
    let old = c.args.chunks.now.items in
    let at = c.args.at in
    let was = c.index_mut-lower.result.now in
    let was_is : was ≡ get_or old at was = c.index_mut-lower.ensures.value in
    let rest = c.take_last-upper.new.self.items in
    let fresh = c.take_last-upper.result in
    let all : All IsSpare rest × IsSpare fresh =
    All-pop IsSpare c.args.spare.now.items rest (Some fresh) c.take_last-upper.ensures.items c.requires.each in
    let spare : IsSpare fresh = all.1 in
    let none : vec_items fresh ≡ [] = nil_from_length (vec_items fresh) (omega (arith, spare.empty, fresh.ok.0)) in
    let lower = c.move_up.new.lower in
    let upper = c.move_up.new.upper in
    let both : vec_items lower ++ vec_items upper ≡ vec_items (get_or old at was) =
    c.move_up.ensures.items ∙ ap (λ (l : List g.row.T.Denot). vec_items was ++ l) none ∙ append-nil (vec_items was)
    ∙ ap vec_items was_is in
    let stay = c.staying-count.ensures in
    let behind : at + 1 ≤ length (set old at lower) = omega (arith, c.requires.chunks.within, length-set old at lower) in
    let over : vec_len was ≡ full + 1 = omega (arith, c.requires.over was, ap vec_len was_is) in
    record {
      same = ap joined c.put.ensures.items ∙ ap (λ (n : _). joined (insert (set old at lower) n upper)) (add-one at)
          ∙ cut-joined vec_items old at lower upper was c.requires.chunks.within both;
      chunks = subst (λ (l : List (Vec g.row.T.Denot)). AreChunks l) (sym c.put.ensures.items)
          (cut_chunks old at c.requires.chunks lower upper
          (omega (
            arith,
            c.move_up.ensures.lower_capacity,
            ap vec_capacity was_is,
            c.requires.chunks.wide at was c.requires.chunks.within,
          ))
          (omega (arith, c.move_up.ensures.upper_capacity, spare.wide))
          (record {
            short = omega (arith, c.move_up.ensures.len, stay.fits);
            some = λ _. omega (arith, c.move_up.ensures.len, stay.some);
          })
          (record {
            short = omega (arith, c.move_up.ensures, stay.some);
            some = λ _. omega (arith, c.move_up.ensures, stay.fits);
          }));
      front = ap (take at) c.put.ensures.items
          ∙ take-insert at (set old at lower) (at + 1) upper (omega arith) behind ∙ take-set old at lower;
      some = omega (
        arith,
        ap length c.put.ensures.items,
        length-insert (set old at lower) (at + 1) upper behind,
        length-set old at lower,
        c.requires.chunks.within,
      );
      turned = record {
        each = all.0;
        fewer = omega (arith, c.put.ensures.len, c.take_last-upper.ensures.len);
        chunks_capacity = c.put.ensures.capacity;
        spare_capacity = c.take_last-upper.ensures.capacity;
      };
      long = omega (arith, c.put.ensures.len, c.take_last-upper.ensures.len);
    }
