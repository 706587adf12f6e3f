-- The line of each member behind those before it.
use Rattle.std.proofs.Common.{Ok, Err, ◌≤◌, length, arith}
use Rattle.std.proofs.lemmas.Result.{err_from_is_err_and}
use Rattle.conflicts.specs.Kept.{current_first}
use Rattle.conflicts.specs.declared.member.Member.{Member}
use Rattle.command_lines.specs.Lines.{line_text}
use Rattle.command_lines.proofs.Listing.{all_of, none_of}
use Rattle.command_lines.proofs.Putting.{puts_as}
use Rattle.replica_core.specs.Commands.Effects.{Conflict}
use Rattle.store_commands.proofs.InConflict.{length_current_first}
use Rattle.store_commands.proofs.Listed.{lines_of}
use Rattle.store_commands.proofs.Placed.{broke_there, more_there}
use Rattle.store_commands.proofs.conflicting.print_members.Goals as goal

pub loop-place-init : goal.loop-place-init
loop-place-init g c = none_of (λ (m : Member). line_text (Conflict m)) (current_first c.args.set.now)
    (g.K.Sink.known c.args.out.now)

pub loop-place-preserved : goal.loop-place-preserved
loop-place-preserved g c =
    let k = g.K.Sink.known in
    more_there (λ (m : Member). line_text (Conflict m))
    (current_first c.args.set.now) c.loop-place.place c.in-Some.member.now
    (k c.args.out.now) (k c.loop-place.out)
    (k c.print_conflict.new.out) c.in-Some.ensures.value c.loop-place.invariant c.in_ok-print_conflict.ensures

pub returns-in_err-print_conflict : goal.returns-in_err-print_conflict
returns-in_err-print_conflict g c =
    let k = g.K.Sink.known in
    let p = err_from_is_err_and c.from_residual.result c.from_residual.ensures.1 in
    rw (p.1, p.2)
    (puts_as _ _ (k c.args.out.now) (k c.print_conflict.new.out) (Err c.in_err-print_conflict.field-0.0)
    (lines_of Conflict (current_first c.args.set.now))
    (broke_there (λ (m : Member). line_text (Conflict m))
    (current_first c.args.set.now) c.loop-place.place c.in-Some.member.now
    (k c.args.out.now) (k c.loop-place.out)
    (k c.print_conflict.new.out) _ c.in-Some.ensures.value c.loop-place.invariant c.in_err-print_conflict.ensures))

pub returns-after-loop-place : goal.returns-after-loop-place
returns-after-loop-place g c =
    let k = g.K.Sink.known in
    let members = current_first c.args.set.now in
    let all : length members ≤ c.loop-place.place =
    omega (arith, c.loop-place-test.false, c.length-place-end.ensures, length_current_first c.args.set.now) in
    puts_as _ _ (k c.args.out.now) (k c.loop-place.out) (Ok tt) (lines_of Conflict members)
    (all_of (λ (m : Member). line_text (Conflict m)) members c.loop-place.place (k c.args.out.now)
    (k c.loop-place.out) all c.loop-place.invariant)
