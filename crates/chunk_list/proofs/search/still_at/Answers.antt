-- The two items that were looked at stand side by side in the list.
use Rattle.std.proofs.Common.{◌≡◌, ◌∙◌, ◌+◌, ◌-◌, ◌<◌, length, true, false, arith, ap, refl, subst}
use Rattle.std.proofs.lemmas.List.Elements.{at_read}
use Rattle.std.specs.Fn.{FnReturnsAt}
use Rattle.std.specs.List.{HoldsAt}
use Rattle.std.specs.Prelude.{slice_get}
use Rattle.std.specs.Vec.{vec_items}
use Rattle.chunk_list.specs.Chunks.{joined}
use Rattle.chunk_list.proofs.Found.{holds_joined}
use Rattle.chunk_list.proofs.Pieces.{start_at-most}
use Rattle.chunk_list.proofs.Places.{item_of_chunk}
use Rattle.chunk_list.proofs.search.still_at.Goals as goal

pub at-begin-requires-clause-fits : goal.at-begin-requires-clause-fits
at-begin-requires-clause-fits g c =
    let within : c.args.spot.chunk < length c.args.chunks.now.items =
    omega (arith, c.if-spot-len.false, c.len.ensures, c.args.chunks.now.ok.0) in
    omega (
      arith,
      c.requires.laid_out.starts_are.begins c.args.spot.chunk within,
      start_at-most vec_items c.args.chunks.now.items c.args.spot.chunk,
      c.requires.fits,
    )

pub returns-then-not-passes-clause-item : goal.returns-then-not-passes-clause-item
returns-then-not-passes-clause-item g c =
    let chunks = c.args.chunks.now.items in
    let at = c.args.spot.chunk in
    let chunk = c.index-chunk.result.now in
    let within : at < length chunks = omega (arith, c.if-spot-len.false, c.len.ensures, c.args.chunks.now.ok.0) in
    item_of_chunk chunks at (c.args.spot.place - c.at-begin.result) chunk c.index-item.result.now within
    c.index-chunk.ensures (omega arith) c.index-item.ensures
    ∙ ap (slice_get (joined chunks))
    (omega (arith, c.at-begin.ensures, c.requires.laid_out.starts_are.begins at within))

pub returns-then-not-passes-clause-before : goal.returns-then-not-passes-clause-before
returns-then-not-passes-clause-before g c some =
    let chunks = c.args.chunks.now.items in
    let at = c.args.spot.chunk in
    let chunk = c.index-chunk.result.now in
    let inside = c.args.spot.place - c.at-begin.result - 1 in
    let P : g.row.T.Denot → Type 0 = λ x. FnReturnsAt g.F.Fn c.args.passes.now x true in
    let within : at < length chunks = omega (arith, c.if-spot-len.false, c.len.ensures, c.args.chunks.now.ok.0) in
    subst (HoldsAt P (joined chunks)) (omega (arith, c.at-begin.ensures, c.requires.laid_out.starts_are.begins at within))
    (holds_joined chunks P at inside chunk within c.index-chunk.ensures (omega arith)
    (at_read chunk.items P inside c.index.result.now (omega (arith, chunk.ok.0)) c.index.ensures
    (record { shown = c.index.result; shows = refl; says = record { met = c.if-passes.ensures } })))

pub returns-then-not-passes-clause-after : goal.returns-then-not-passes-clause-after
returns-then-not-passes-clause-after g c less =
    let chunks = c.args.chunks.now.items in
    let at = c.args.spot.chunk in
    let chunk = c.index-chunk.result.now in
    let inside = c.args.spot.place - c.at-begin.result in
    let Q : g.row.T.Denot → Type 0 = λ x. FnReturnsAt g.F.Fn c.args.passes.now x false in
    let within : at < length chunks = omega (arith, c.if-spot-len.false, c.len.ensures, c.args.chunks.now.ok.0) in
    subst (HoldsAt Q (joined chunks)) (omega (arith, c.at-begin.ensures, c.requires.laid_out.starts_are.begins at within))
    (holds_joined chunks Q at inside chunk within c.index-chunk.ensures (omega arith)
    (at_read chunk.items Q inside c.index-item.result.now (omega (arith, chunk.ok.0)) c.index-item.ensures
    (record { shown = c.index-item.result; shows = refl; says = record { met = c.if-not-passes.ensures } })))
