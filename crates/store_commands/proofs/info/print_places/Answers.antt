-- The line of each peer behind those before it.
use Rattle.std.proofs.Common.{Ok, Err, ◌∙◌, ◌≤◌, List, length, arith, ap}
use Rattle.std.proofs.lemmas.Result.{err_from_is_err_and}
use Rattle.std.specs.Prelude.{slice_get}
use Rattle.u1_base.specs.Places.{Place}
use Rattle.vector_rev.specs.Counts.{Uid}
use Rattle.command_lines.specs.Lines.{line_text}
use Rattle.command_lines.proofs.Listing.{all_of, none_of}
use Rattle.command_lines.proofs.Putting.{puts_as}
use Rattle.store_commands.specs.inner.Shown.{kept_line}
use Rattle.store_commands.proofs.Listed.{lines_of}
use Rattle.store_commands.proofs.Placed.{broke_there, more_there}
use Rattle.store_commands.proofs.info.print_places.Goals as goal

pub loop-place-init : goal.loop-place-init
loop-place-init g c = record {
  walk = c.walk-walk.ensures;
  put = none_of (λ (kept : Uid × Place). line_text (kept_line c.args.table kept)) c.args.places.now.pairs
      (g.K.Sink.known c.args.out.now);
}

pub loop-place-preserved : goal.loop-place-preserved
loop-place-preserved g c =
    let k = g.K.Sink.known in
    let pairs = c.args.places.now.pairs in
    record {
      walk = c.in-Some.ensures.pairs ∙ c.loop-place.invariant.walk;
      put = more_there (λ (kept : Uid × Place). line_text (kept_line c.args.table kept)) pairs
          c.loop-place.place (c.in-Some.uid.now, c.in-Some.at.now)
          (k c.args.out.now) (k c.loop-place.out) (k c.print_kept.new.out)
          (c.in-Some.ensures.value
          ∙ ap (λ (l : List (Uid × Place)). slice_get l c.loop-place.place) c.loop-place.invariant.walk)
          c.loop-place.invariant.put c.in_ok-print_kept.ensures;
    }

pub returns-in_err-print_kept : goal.returns-in_err-print_kept
returns-in_err-print_kept g c =
    let k = g.K.Sink.known in
    let pairs = c.args.places.now.pairs in
    let p = err_from_is_err_and c.from_residual.result c.from_residual.ensures.1 in
    rw (p.1, p.2)
    (puts_as _ _ (k c.args.out.now) (k c.print_kept.new.out) (Err c.in_err-print_kept.field-0.0)
    (lines_of (kept_line c.args.table) pairs)
    (broke_there (λ (kept : Uid × Place). line_text (kept_line c.args.table kept)) pairs c.loop-place.place
    (c.in-Some.uid.now, c.in-Some.at.now)
    (k c.args.out.now) (k c.loop-place.out) (k c.print_kept.new.out) _
    (c.in-Some.ensures.value
    ∙ ap (λ (l : List (Uid × Place)). slice_get l c.loop-place.place) c.loop-place.invariant.walk)
    c.loop-place.invariant.put c.in_err-print_kept.ensures))

pub returns-after-loop-place : goal.returns-after-loop-place
returns-after-loop-place g c =
    let k = g.K.Sink.known in
    let pairs = c.args.places.now.pairs in
    let all : length pairs ≤ c.loop-place.place = omega (arith, c.loop-place-test.false, c.length-place-end.ensures) in
    puts_as _ _ (k c.args.out.now) (k c.loop-place.out) (Ok tt)
    (lines_of (kept_line c.args.table) pairs)
    (all_of (λ (kept : Uid × Place). line_text (kept_line c.args.table kept)) pairs c.loop-place.place
    (k c.args.out.now) (k c.loop-place.out) all c.loop-place.invariant.put)
