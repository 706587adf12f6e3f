-- The last chunk that begins at the place or before it has the place.
use Rattle.std.proofs.Common.{◌≡◌, ◌+◌, ◌-◌, ◌/◌, ◌<◌, ◌∙◌, ℕ, length, arith, subst}
use Rattle.std.specs.Vec.{vec_items}
use Rattle.chunk_list.specs.Chunks.{begin_of}
use Rattle.chunk_list.proofs.Pieces.{start_at-most}
use Rattle.chunk_list.proofs.Places.{is_at}
use Rattle.chunk_list.proofs.starts.locate.Goals as goal

pub loop-high-init : goal.loop-high-init
loop-high-init g c = record {
  rising = omega (arith, c.requires.some, c.args.chunks.now.ok.0);
  within = omega (arith, c.args.chunks.now.ok.0);
  here = omega (arith, c.requires.starts.begins 0 c.requires.some);
  next = λ lt. absurd (omega (arith, c.args.chunks.now.ok.0));
}

pub at-begin-requires-clause-fits : goal.at-begin-requires-clause-fits
at-begin-requires-clause-fits g c =
    let v = c.loop-high.invariant in
    let low = c.loop-high.low in
    let middle : ℕ = low + (c.loop-high.high - low) / 2 in
    omega (
      arith,
      c.requires.starts.begins middle (omega (arith, v.within, v.rising)),
      start_at-most vec_items c.args.chunks.now.items middle,
      c.requires.fits,
    )

pub at-start-requires-clause-fits : goal.at-start-requires-clause-fits
at-start-requires-clause-fits g c =
    let v = c.loop-high.invariant in
    omega (
      arith,
      c.requires.starts.begins c.loop-high.low (omega (arith, v.within, v.rising)),
      start_at-most vec_items c.args.chunks.now.items c.loop-high.low,
      c.requires.fits,
    )

pub returns : goal.returns
returns g c =
    let chunks = c.args.chunks.now.items in
    let s = c.requires.starts in
    let v = c.loop-high.invariant in
    let low = c.loop-high.low in
    let within : low < length chunks = omega (arith, v.within, v.rising) in
    let e : c.loop-high.high ≡ low + 1 = omega arith in
    is_at chunks low c.at-start.result c.args.place within (c.at-start.ensures ∙ s.begins low within)
    (omega (arith, c.at-start.ensures, v.here))
    (λ more. omega (
      arith,
      s.begins (low + 1) more,
      subst (λ (n : ℕ). n < length chunks
          → c.args.place < begin_of c.args.starts.now.inside.items c.args.starts.now.bases.items n) e v.next more,
    ))
    c.requires.place
