-- What the first items of two chunks say of a search.
use Rattle.std.proofs.Common.{◌≡◌, ◌+◌, ◌<◌, Bool, length, true, false, arith, subst, ap}
use Rattle.std.proofs.lemmas.Bool.{not-true}
use Rattle.std.specs.Fn.{FnReturnsAt}
use Rattle.std.specs.List.{HoldsAt}
use Rattle.std.specs.Vec.{vec_items, vec_len}
use Rattle.chunk_list.proofs.Found.{begun}
use Rattle.chunk_list.proofs.search.is_chunk.Goals as goal

pub returns-then-at-len-2 : goal.returns-then-at-len-2
returns-then-at-len-2 g c is =
    let chunks = c.args.chunks.now.items in
    let chunk = c.index.result.now in
    let within : c.args.at < length chunks = omega (arith, c.if-at-len.false, c.len.ensures, c.args.chunks.now.ok.0) in
    record {
      within = within;
      here = λ more. begun chunks c.args.at chunk
          (λ x. FnReturnsAt g.F.Fn c.args.passes.now x true) within c.index.ensures
          (c.if-not-first_passes.ensures (omega (
            arith,
            (c.requires.chunks.held c.args.at chunk within).some more,
            ap vec_len c.index.ensures,
            chunk.ok.0,
          )));
      next = λ less. absurd (omega (arith, c.if-at-len-2.true, c.len-2.ensures, c.args.chunks.now.ok.0, less));
    }

pub returns-else-at-len-2 : goal.returns-else-at-len-2
returns-else-at-len-2 g c is =
    let chunks = c.args.chunks.now.items in
    let chunk = c.index.result.now in
    let other = c.index-else-at-len-2.result.now in
    let within : c.args.at < length chunks = omega (arith, c.if-at-len.false, c.len.ensures, c.args.chunks.now.ok.0) in
    let fails : c.first_passes-else-at-len-2.result ≡ false = not-true _ is in
    record {
      within = within;
      here = λ more. begun chunks c.args.at chunk
          (λ x. FnReturnsAt g.F.Fn c.args.passes.now x true) within c.index.ensures
          (c.if-not-first_passes.ensures (omega (
            arith,
            (c.requires.chunks.held c.args.at chunk within).some more,
            ap vec_len c.index.ensures,
            chunk.ok.0,
          )));
      next = λ less. begun chunks (c.args.at + 1) other (λ x. FnReturnsAt g.F.Fn c.args.passes.now x false) less
          c.index-else-at-len-2.ensures
          (subst (λ (b : Bool). HoldsAt (λ x. FnReturnsAt g.F.Fn c.args.passes.now x b) (vec_items other) 0) fails
          (c.first_passes-else-at-len-2.ensures (omega (
            arith,
            (c.requires.chunks.held (c.args.at + 1) other less).some (omega arith),
            ap vec_len c.index-else-at-len-2.ensures,
            other.ok.0,
          ))));
    }
