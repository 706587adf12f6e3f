-- Each line behind those before it.
use Rattle.std.proofs.Common.{Ok, Err, arith}
use Rattle.std.proofs.lemmas.Result.{err_from_is_err_and}
use Rattle.translog.specs.declared.entry.Change.{Change}
use Rattle.replica_core.specs.Commands.Effects.{Changed}
use Rattle.store_commands.proofs.Listed.{lines_of}
use Rattle.command_lines.specs.Lines.{line_text}
use Rattle.command_lines.proofs.Listing.{all_of, none_of}
use Rattle.command_lines.proofs.Putting.{puts_as}
use Rattle.store_commands.proofs.Placed.{broke_there, item_there, more_there}
use Rattle.store_commands.proofs.changes.print_changes.Goals as goal

pub loop-change-init : goal.loop-change-init
loop-change-init g c = none_of (λ (x : Change). line_text (Changed x)) c.args.changes.now
    (g.K.Sink.known c.args.out.now)

pub loop-change-preserved : goal.loop-change-preserved
loop-change-preserved g c =
    let k = g.K.Sink.known in
    more_there (λ (x : Change). line_text (Changed x)) c.args.changes.now c.loop-change.change-index
    c.change-item.result
    (k c.args.out.now) (k c.loop-change.out) (k c.print_change.new.out)
    (item_there c.args.changes.now c.loop-change.change-index c.change-item.result
    (omega (arith, c.loop-change-test.true)) c.change-item.is)
    c.loop-change.invariant c.in_ok-print_change.ensures

pub returns-in_err-print_change : goal.returns-in_err-print_change
returns-in_err-print_change g c =
    let k = g.K.Sink.known in
    let p = err_from_is_err_and c.from_residual.result c.from_residual.ensures.1 in
    rw (p.1, p.2)
    (puts_as _ _ (k c.args.out.now) (k c.print_change.new.out) (Err c.in_err-print_change.field-0.0)
    (lines_of Changed c.args.changes.now)
    (broke_there (λ (x : Change). line_text (Changed x)) c.args.changes.now c.loop-change.change-index
    c.change-item.result
    (k c.args.out.now) (k c.loop-change.out) (k c.print_change.new.out) c.in_err-print_change.field-0.0
    (item_there c.args.changes.now c.loop-change.change-index c.change-item.result
    (omega (arith, c.loop-change-test.true)) c.change-item.is)
    c.loop-change.invariant c.in_err-print_change.ensures))

pub returns : goal.returns
returns g c =
    let k = g.K.Sink.known in
    puts_as _ _ (k c.args.out.now) (k c.loop-change.out) (Ok tt) (lines_of Changed c.args.changes.now)
    (all_of (λ (x : Change). line_text (Changed x)) c.args.changes.now c.loop-change.change-index (k c.args.out.now)
    (k c.loop-change.out) (omega (arith, c.loop-change-test.false)) c.loop-change.invariant)
