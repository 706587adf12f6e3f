-- The place inside the chunk, counted from its start.
use Rattle.std.proofs.Common.{◌≡◌, ◌∙◌, ◌+◌, ◌<◌, ◌≤◌, List, Option, Some, None, IfSome, MatchOption, Bor, true, false}
use Rattle.std.proofs.Common.{length, get_or, arith, ap}
use Rattle.std.proofs.lemmas.List.Folds.{length-flat_map-take}
use Rattle.std.specs.Fn.{FnReturnsAt}
use Rattle.std.specs.Prelude.{slice_get}
use Rattle.std.specs.Vec.{vec_items, vec_len}
use Rattle.chunk_list.specs.Chunks.{joined}
use Rattle.chunk_list.proofs.Found.{IsSearched, begin_is, found_within, chunk_within, found_before, found_after}
use Rattle.chunk_list.proofs.Pieces.{start_at-most}
use Rattle.chunk_list.proofs.Places.{item_of_chunk}
use Rattle.chunk_list.proofs.search.look_in.Goals as goal

if_some : {X : Type 0} (N : Type 0) (P Q : X → Type 0) (o : Option X) → ((x : X) → P x → Q x) → MatchOption o N P
    → IfSome o Q
if_some N P Q None f is = tt
if_some N P Q (Some x) f is = f x is

pub at-start-requires-clause-fits : goal.at-start-requires-clause-fits
at-start-requires-clause-fits g c =
    let r = c.requires in
    omega (
      arith,
      r.fits,
      r.laid_out.starts_are.begins c.args.at r.last.within,
      start_at-most vec_items c.args.chunks.now.items c.args.at,
    )

pub overflow_add-result : goal.overflow_add-result
overflow_add-result g c =
    let r = c.requires in
    let chunks = c.args.chunks.now.items in
    let at = c.args.at in
    let chunk = c.index-chunk.result.now in
    omega (
      arith,
      r.fits,
      c.at-start.ensures,
      r.laid_out.starts_are.begins at r.last.within,
      length-flat_map-take vec_items chunks at chunk r.last.within,
      ap vec_len c.index-chunk.ensures,
      (get_or chunks at chunk).ok.0,
      c.place_in-place.ensures.high,
      chunk.ok.0,
    )

pub returns : goal.returns
returns g c =
    let r = c.requires in
    let chunks = c.args.chunks.now.items in
    let place = c.place_in-place.result in
    let chunk = c.index-chunk.result.now in
    let seen = c.deref.result.now in
    let s : IsSearched chunks c.args.starts.now.inside.items c.args.starts.now.bases.items
    c.args.at c.at-start.result place c.min-known.result chunk = record {
      laid_out = r.laid_out;
      within = r.last.within;
      start_is = c.at-start.ensures;
      is = c.index-chunk.ensures;
      known_is = c.min-known.ensures;
      low = c.place_in-place.ensures.low;
      high = omega (arith, c.place_in-place.ensures.high, chunk.ok.0);
    } in
    record {
      within = found_within s;
      before = found_before s (λ x. FnReturnsAt g.F.Fn c.args.passes.now x true) r.last.here
          c.place_in-place.ensures.before;
      after = found_after s (λ x. FnReturnsAt g.F.Fn c.args.passes.now x false) r.last.next
          c.place_in-place.ensures.after;
      item = if_some (length seen ≤ place)
          (λ (x : Bor g.row.T.Denot). (place < length seen) × ((d : g.row.T.Denot) → x.now ≡ get_or seen place d))
          (λ x. Some x.now ≡ slice_get (joined chunks) (c.at-start.result + place)) c.get.result
          (λ x got. item_of_chunk chunks c.args.at place chunk x.now s.within s.is
          (omega (arith, got.0, c.deref.ensures.len))
          (got.1 x.now ∙ ap (λ (l : List _). get_or l place x.now) c.deref.ensures.value)
          ∙ ap (slice_get (joined chunks)) (omega (arith, begin_is s)))
          c.get.ensures.lookup.3;
      looks = λ k all. c.place_in-place.ensures.looks k (omega (arith, chunk_within s, chunk.ok.0, all));
    }
