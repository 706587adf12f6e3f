-- The next chunk begins where this one ends, and each block where its first chunk begins.
use Rattle.std.proofs.Common.{◌≡◌, ◌+◌, ◌-◌, ◌*◌, ◌/◌, ◌<◌, ℕ, List, [], ◌∷◌, ◌++◌, length, get_or, arith, ◌∙◌, ap}
use Rattle.std.proofs.Common.{sym, subst, take, length-append}
use Rattle.std.proofs.lemmas.List.{get_or_read, length-take-le}
use Rattle.std.proofs.lemmas.List.Folds.{length-flat_map-take}
use Rattle.std.specs.Vec.{vec_items, vec_len, vec_capacity}
use Rattle.chunk_list.specs.Chunks.{block}
use Rattle.chunk_list.proofs.Blocks.{block_behind, blocks_reach, enough_blocks, full_blocks, in_block, last_block}
use Rattle.chunk_list.proofs.Counting.{AreCounted, all_counted, block_counted, chunk_counted, known_counted}
use Rattle.chunk_list.proofs.Pieces.{start_at-most, start_at-next}
use Rattle.chunk_list.proofs.starts.recount.Goals as goal
use Rattle.chunk_list.proofs.starts.recount.Goals.{then-k-eq0, else-k-eq0}

pub at-requires-clause-fits : goal.at-requires-clause-fits
at-requires-clause-fits g c =
    let chunks = c.args.chunks.now in
    omega (
      arith,
      c.requires.known.begins c.args.from (omega arith),
      start_at-most vec_items chunks.items c.args.from,
      c.requires.fits,
    )

pub overflow_add-place : goal.overflow_add-place
overflow_add-place g c =
    let chunk = c.index.result.now in
    let chunks = c.args.chunks.now in
    let from = c.args.from in
    omega (
      arith,
      c.at.ensures,
      c.requires.known.begins from (omega arith),
      length-flat_map-take vec_items chunks.items from chunk c.requires.from,
      ap vec_len c.index.ensures,
      (get_or chunks.items from chunk).ok.0,
      c.requires.fits,
    )

pub loop-k-init : goal.loop-k-init
loop-k-init g c =
    let chunk = c.index.result.now in
    let chunks = c.args.chunks.now in
    let old = c.args.starts.now in
    let from = c.args.from in
    let known = c.requires.known in
    let in_block : from / block < length old.bases.items = block_behind from (length old.bases.items) (omega arith) in
    let blocks : length c.truncate-2.new.self.items ≡ from / block + 1 =
    ap length c.truncate-2.ensures.items ∙ length-take-le (from / block + 1) old.bases.items (omega arith) in
    let reach = blocks_reach from in
    record {
      counted = known_counted chunks.items old.inside.items old.bases.items c.truncate.new.self.items
          c.truncate-2.new.self.items from c.index-base.result.now chunk known c.requires.from
          c.truncate.ensures.items c.truncate-2.ensures.items
          (get_or_read old.bases.items (from / block) c.index-base.result.now in_block c.index-base.ensures 0);
      place = omega (
        arith,
        c.at.ensures,
        known.begins from (omega arith),
        start_at-next vec_items chunks.items from chunk c.requires.from,
        ap vec_len c.index.ensures,
        (get_or chunks.items from chunk).ok.0,
      );
      enough = omega (arith, reach.0, blocks);
      no_more = omega (arith, reach.1, blocks);
      capacity = c.truncate.ensures.capacity;
      blocks_capacity = c.truncate-2.ensures.capacity;
    }

pub overflow_add-place-in-loop-k : goal.overflow_add-place-in-loop-k
overflow_add-place-in-loop-k g c =
    let chunk = c.index-in-loop-k.result.now in
    let chunks = c.args.chunks.now in
    let inside = length-flat_map-take vec_items chunks.items c.loop-k.k chunk (omega (arith, chunks.ok.0)) in
    omega (
      arith,
      c.loop-k.invariant.place,
      ap vec_len c.index-in-loop-k.ensures,
      (get_or chunks.items c.loop-k.k chunk).ok.0,
      inside,
      c.requires.fits,
    )

pub loop-k-preserved : goal.loop-k-preserved
loop-k-preserved g c =
    let chunk = c.index-in-loop-k.result.now in
    let chunks = c.args.chunks.now in
    let old = c.loop-k.starts in
    let now = c.if-k-eq0.starts in
    let base = c.if-k-eq0.base in
    let k = c.loop-k.k in
    let place = c.loop-k.place in
    let v = c.loop-k.invariant in
    let within : k < length chunks.items = omega (arith, chunks.ok.0) in
    let inside : now.inside ≡ old.inside = elim c.if-k-eq0.branch [
      | then-k-eq0 w ↦ ap (λ s. s.inside) w.starts-is
      | else-k-eq0 w ↦ ap (λ s. s.inside) w.starts-is
    ] in
    let capacity : vec_capacity now.bases ≡ vec_capacity old.bases = elim c.if-k-eq0.branch [
      | then-k-eq0 w ↦ ap (λ s. vec_capacity s.bases) w.starts-is ∙ w.push_reserved.ensures.capacity
      | else-k-eq0 w ↦ ap (λ s. vec_capacity s.bases) w.starts-is
    ] in
    let begun : AreCounted chunks.items old.inside.items now.bases.items k base
    × (k / block + 1 ≡ length now.bases.items) = elim c.if-k-eq0.branch [
      | then-k-eq0 w ↦
          let full : length old.bases.items * block ≡ k =
          full_blocks k (length old.bases.items) (omega (arith, w.if-k-eq0.true)) v.enough v.no_more in
          let is : now.bases.items ≡ old.bases.items ++ place ∷ [] =
          ap (λ s. s.bases.items) w.starts-is ∙ w.push_reserved.ensures.items in
          let long : length now.bases.items ≡ length old.bases.items + 1 =
          omega (arith, ap length is, length-append old.bases.items (place ∷ [])) in (
            subst (λ (bs : List ℕ). AreCounted chunks.items old.inside.items bs k base) (sym is)
                (subst (λ (b : ℕ). AreCounted chunks.items old.inside.items (old.bases.items ++ place ∷ []) k b)
                (sym w.base-is)
                (block_counted chunks.items old.inside.items old.bases.items k c.loop-k.base place v.counted v.place
                full)),
            last_block k (length now.bases.items) (omega (arith, long, full)) (omega (arith, long, full)),
          )
      | else-k-eq0 w ↦
          let is : now.bases.items ≡ old.bases.items = ap (λ s. s.bases.items) w.starts-is in
          let less : k < length old.bases.items * block =
          in_block k (length old.bases.items) (λ e. omega (arith, w.if-k-eq0.false)) v.enough in (
            subst (λ (bs : List ℕ). AreCounted chunks.items old.inside.items bs k base) (sym is)
                (subst (λ (b : ℕ). AreCounted chunks.items old.inside.items old.bases.items k b) (sym w.base-is)
                v.counted),
            last_block k (length old.bases.items) less (omega (arith, v.no_more)) ∙ sym (ap length is),
          )
    ] in
    let bounds = enough_blocks k (length now.bases.items) begun.1 in
    let push = c.push_reserved-in-loop-k.ensures in
    let items : c.push_reserved-in-loop-k.new.self.items ≡ old.inside.items ++ (place - base) ∷ [] =
    push.items ∙ ap (λ v. vec_items v ++ (place - base) ∷ []) inside in
    record {
      counted = subst (λ (xs : List ℕ). AreCounted chunks.items xs now.bases.items (k + 1) base) (sym items)
          (chunk_counted chunks.items old.inside.items now.bases.items k base place begun.0 v.place chunk within
          begun.1);
      place = omega (
        arith,
        v.place,
        ap vec_len c.index-in-loop-k.ensures,
        (get_or chunks.items k chunk).ok.0,
        start_at-next vec_items chunks.items k chunk within,
      );
      enough = bounds.0;
      no_more = bounds.1;
      capacity = push.capacity ∙ ap vec_capacity inside ∙ v.capacity;
      blocks_capacity = capacity ∙ v.blocks_capacity;
    }

pub returns : goal.returns
returns g c =
    let v = c.loop-k.invariant in
    let chunks = c.args.chunks.now in
    record {
      starts = all_counted chunks.items c.loop-k.starts.inside.items c.loop-k.starts.bases.items c.loop-k.k
          c.loop-k.base v.counted (omega (arith, chunks.ok.0)) v.enough v.no_more;
      capacity = v.capacity;
      blocks_capacity = v.blocks_capacity;
    }
