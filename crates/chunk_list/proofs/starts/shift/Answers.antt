-- The later chunks of the block move inside it, and the later blocks as a whole.
use Rattle.std.proofs.Common.{◌+◌, ◌*◌, ◌/◌, arith, inl, inr}
use Rattle.std.proofs.lemmas.Bool.{cases_lt}
use Rattle.chunk_list.specs.Chunks.{block}
use Rattle.chunk_list.proofs.Blocks.{earlier_block, later_block, same_block}
use Rattle.chunk_list.proofs.starts.shift.Goals as goal

pub returns : goal.returns
returns c =
    let at = c.args.at in
    let inside = c.args.starts.now.inside in
    let bases = c.args.starts.now.bases in
    let a = c.raise.ensures in
    let b = c.raise-2.ensures in
    record {
      len = a.len;
      blocks = b.len;
      low = λ k le. omega (arith, a.low k (omega arith), b.low (k / block) (omega (arith, earlier_block at k le)));
      high = λ k gt lt. elim (cases_lt k ((at / block + 1) * block)) [
        | inl near ↦ omega (
          arith,
          a.raised k (omega arith) (omega (arith, inside.ok.0)),
          b.low (k / block) (omega (arith, same_block at k (omega arith) near)),
        )
        | inr far ↦ omega (
          arith,
          a.high k (omega (arith, inside.ok.0)),
          b.raised (k / block) (omega (arith, later_block at k far)) (omega (arith, c.requires.enough, bases.ok.0)),
        )
      ];
      blocks_low = λ n le. b.low n (omega arith);
      blocks_high = λ n gt lt. b.raised n (omega arith) (omega (arith, bases.ok.0));
      capacity = a.capacity;
      blocks_capacity = b.capacity;
    }
