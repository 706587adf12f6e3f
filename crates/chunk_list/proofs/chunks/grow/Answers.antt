-- One spare chunk more, or the first chunk of all.
use Rattle.std.proofs.Common.{◌++◌, [], ◌∷◌, ◌∙◌, List, length, ap, arith, sym, subst}
use Rattle.std.proofs.lemmas.List.{nil_from_length}
use Rattle.std.proofs.lemmas.List.Elements.{All-push}
use Rattle.std.specs.Global.{Vec}
use Rattle.std.specs.List.{All}
use Rattle.chunk_list.specs.Chunks.{joined, IsSpare}
use Rattle.chunk_list.proofs.Turned.{only_spare, same_laid_out}
use Rattle.chunk_list.proofs.chunks.grow.Goals as goal

pub loop-chunks-preserved : goal.loop-chunks-preserved
loop-chunks-preserved g c =
    let v = c.loop-chunks.invariant in
    let e = c.extend.ensures in
    let ok = c.in_ok-extend.ensures.ok in
    let p = c.push_reserved-else-len-eq0.ensures in
    let chunk : IsSpare c.in_ok-chunk.chunk =
    record { wide = omega (arith, c.in_ok-chunk.ensures.exact); empty = c.in_ok-chunk.ensures.len } in
    record {
      same = ap joined e.same.0 ∙ v.same;
      laid_out = same_laid_out e.same.0 e.same.2 e.same.3 v.laid_out;
      turns = record {
        each = subst (λ (l : List (Vec g.row.T.Denot)). All IsSpare l) (sym p.items)
            (All-push IsSpare c.extend.new.spare.items c.in_ok-chunk.chunk e.turns.each chunk);
        chunks_fit = omega (arith, ok.0, p.len);
        spare_fit = omega (arith, ok.1, p.len, p.capacity);
        starts_fit = omega (arith, ok.2, p.len);
        blocks_fit = omega (arith, ok.3, p.len);
        first = omega arith;
      };
      long = omega (
        arith,
        v.long,
        p.len,
        ap length e.same.0,
        ap length e.same.1,
        c.extend.new.chunks.ok.0,
        c.extend.new.spare.ok.0,
        c.loop-chunks.chunks.ok.0,
        c.loop-chunks.spare.ok.0,
      );
    }

pub loop-chunks-preserved-then-len-eq0 : goal.loop-chunks-preserved-then-len-eq0
loop-chunks-preserved-then-len-eq0 g c =
    let v = c.loop-chunks.invariant in
    let e = c.extend.ensures in
    let ok = c.in_ok-extend.ensures.ok in
    let p = c.push_reserved.ensures in
    let first = c.in_ok-chunk.chunk in
    let none = nil_from_length c.extend.new.chunks.items (omega (arith, c.extend.new.chunks.ok.0)) in
    let s = v.laid_out.starts_are in
    let no_start = nil_from_length c.extend.new.starts.inside.items
    (omega (arith, ap length e.same.2, s.as_many, ap length e.same.0, ap length none)) in
    let no_block = nil_from_length c.extend.new.starts.bases.items
    (omega (arith, ap length e.same.3, s.no_more, ap length e.same.0, ap length none)) in
    let is_chunks = p.items ∙ ap (λ (l : List (Vec g.row.T.Denot)). l ++ first ∷ []) none in
    let is_starts = c.push_reserved-then-len-eq0.ensures.items ∙ ap (λ (l : List _). l ++ 0 ∷ []) no_start in
    let is_bases = c.push_reserved-then-len-eq0-2.ensures.items ∙ ap (λ (l : List _). l ++ 0 ∷ []) no_block in
    let only = only_spare first
    (record { wide = omega (arith, c.in_ok-chunk.ensures.exact); empty = c.in_ok-chunk.ensures.len }) in
    record {
      same = ap joined is_chunks ∙ only.0 ∙ sym (ap joined none) ∙ ap joined e.same.0 ∙ v.same;
      laid_out = same_laid_out is_chunks is_starts is_bases only.1;
      turns = record {
        each = e.turns.each;
        chunks_fit = omega (arith, ok.0, p.len, p.capacity);
        spare_fit = omega (arith, ok.1, p.len);
        starts_fit = omega (arith, ok.2, p.len, c.push_reserved-then-len-eq0.ensures.capacity);
        blocks_fit = omega (arith, ok.3, p.len, c.push_reserved-then-len-eq0-2.ensures.capacity);
        first = λ _. omega (arith, p.len);
      };
      long = omega (
        arith,
        v.long,
        p.len,
        ap length e.same.0,
        ap length e.same.1,
        c.extend.new.chunks.ok.0,
        c.extend.new.spare.ok.0,
        c.loop-chunks.chunks.ok.0,
        c.loop-chunks.spare.ok.0,
      );
    }
