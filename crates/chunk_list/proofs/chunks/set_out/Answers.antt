-- The chunks that are left hold what all held.
use Rattle.std.proofs.Common.{List, take, ap, arith, sym, subst, ◌∙◌}
use Rattle.std.proofs.lemmas.List.Elements.{All-push}
use Rattle.std.specs.Global.{Vec}
use Rattle.std.specs.List.{All}
use Rattle.std.specs.Vec.{vec_len, vec_capacity}
use Rattle.chunk_list.specs.Chunks.{IsSpare}
use Rattle.chunk_list.proofs.Pieces.{take-remove}
use Rattle.chunk_list.proofs.Turned.{out_chunks}
use Rattle.chunk_list.proofs.chunks.set_out.Goals as goal

pub returns-then-left-needed-clause-turned : goal.returns-then-left-needed-clause-turned
returns-then-left-needed-clause-turned g c =
    let chunk = c.remove-chunk.result in
    let is = c.remove-chunk.ensures.value in
    let b = c.requires.chunks in
    let spare : IsSpare chunk =
    record {
      wide = omega (arith, ap vec_capacity is, b.wide c.args.at chunk b.within);
      empty =
          omega (arith, ap vec_len is, c.requires.empty chunk);
    } in
    record {
      each = subst (λ (l : List (Vec g.row.T.Denot)). All IsSpare l) (sym c.push_reserved.ensures.items)
          (All-push IsSpare c.args.spare.now.items chunk c.requires.each spare);
      fewer = omega (arith, c.push_reserved.ensures.len, c.remove-chunk.ensures.len);
      chunks_capacity = c.remove-chunk.ensures.capacity;
      spare_capacity = c.push_reserved.ensures.capacity;
    }

pub returns-then-left-needed-clause-same : goal.returns-then-left-needed-clause-same
returns-then-left-needed-clause-same g c =
    let chunk = c.remove-chunk.result in
    out_chunks c.args.chunks.now.items c.args.at c.requires.chunks c.remove-chunk.new.self.items chunk c.requires.some
    (c.requires.empty chunk) c.remove-chunk.ensures.items

pub returns-else-left-needed-clause-same : goal.returns-else-left-needed-clause-same
returns-else-left-needed-clause-same g c =
    let chunk = c.remove-chunk.result in
    out_chunks c.args.chunks.now.items c.args.at c.requires.chunks c.remove-chunk.new.self.items chunk c.requires.some
    (c.requires.empty chunk) c.remove-chunk.ensures.items

pub returns-then-left-needed-clause-front : goal.returns-then-left-needed-clause-front
returns-then-left-needed-clause-front g c =
    ap (take c.args.at) c.remove-chunk.ensures.items ∙ take-remove c.args.at c.args.chunks.now.items

pub returns-else-left-needed-clause-front : goal.returns-else-left-needed-clause-front
returns-else-left-needed-clause-front g c =
    ap (take c.args.at) c.remove-chunk.ensures.items ∙ take-remove c.args.at c.args.chunks.now.items
