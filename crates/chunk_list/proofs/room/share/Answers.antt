-- Step by step the places come nearer to the chunk with one item too many.
use Rattle.std.proofs.Common.{◌≡◌, ◌+◌, ◌<◌, ◌⊎◌, ℕ, length, arith, ap, sym, subst, ◌∙◌, inl, inr, get_or}
use Rattle.std.proofs.lemmas.List.{get_or_read}
use Rattle.std.specs.Global.{Vec}
use Rattle.std.specs.Vec.{vec_len}
use Rattle.chunk_list.specs.Chunks.{full}
use Rattle.chunk_list.proofs.Turned.{given_on}
use Rattle.chunk_list.proofs.room.share.Goals as goal

-- the chunk that is nearer is one of the list
there : (n from at near : ℕ) → from < n → at < n → ((at < from) × (from ≡ near + 1))
    ⊎ ((from < at) × (near ≡ from + 1)) → near < n
there n from at near lt lt_at step = elim step [ inl down ↦ omega (arith, down.1) | inr up ↦ omega (arith, up.0, up.1) ]

pub loop-to-preserved-then-most-len : goal.loop-to-preserved-then-most-len
loop-to-preserved-then-most-len g c =
    let v = c.loop-to.invariant in
    let from = c.nearer-from.result in
    let to = c.loop-to.to in
    let now = c.loop-to.chunks.items in
    let new = c.give.new.chunks.items in
    let given = c.give.ensures.given in
    let lt = there (length now) to c.args.at from v.within v.chunks.within c.nearer-from.ensures in
    let len = λ (d : Vec g.row.T.Denot). ap vec_len
    (get_or_read now from c.index-in-loop-to.result.now lt c.index-in-loop-to.ensures d) in
    record {
      chunks = given_on now new c.args.at from to c.div_ceil-count.result v.chunks given lt
          (omega (
            arith,
            c.requires.free.some c.index.result.now,
            ap vec_len c.index.ensures,
            c.len.ensures,
            c.div_ceil-count.ensures,
          )) (omega (arith, c.div_ceil-count.ensures))
          (λ d. (v.free c.loop-to-test.true d).1)
          (λ d. omega (arith, len d, c.if-most-len.true, c.len-in-loop-to.ensures)) c.loop-to-test.true;
      same = given.same ∙ v.same;
      starts = c.carry.ensures.starts new given;
      starts_capacity = c.carry.ensures.capacity ∙ v.starts_capacity;
      blocks_capacity = c.carry.ensures.blocks_capacity ∙ v.blocks_capacity;
      len = omega (arith, given.long, c.give.new.chunks.ok.0, c.loop-to.chunks.ok.0, v.len);
      capacity = c.give.ensures.capacity ∙ v.capacity;
      within = omega (arith, lt, given.long);
      free = λ ne d. (
        omega (
          arith,
          ap vec_len
              (given.others c.args.at d (λ e. ne (sym e)) (λ e. c.loop-to-test.true (sym e))),
          (v.free c.loop-to-test.true d).0,
        ),
        omega (arith, given.from_len d, (v.chunks.others from d lt ne).short),
      );
      given = λ e d. subst (λ (m : ℕ). vec_len (get_or new m d) + c.div_ceil-count.result ≡ full + 1) e
          (given.from_len d ∙ subst (λ (m : ℕ). vec_len (get_or now m d) ≡ full + 1) (sym e)
          (v.free c.loop-to-test.true d).0);
    }
