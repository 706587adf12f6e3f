-- Each line behind those before it.
use Rattle.std.proofs.Common.{Ok, Err, arith}
use Rattle.std.proofs.lemmas.Result.{err_from_is_err_and}
use Rattle.index_tables.specs.Order.{Key}
use Rattle.replica_core.specs.Commands.Effects.{Keyed}
use Rattle.store_commands.proofs.Listed.{lines_of}
use Rattle.command_lines.specs.Lines.{line_text}
use Rattle.command_lines.proofs.Listing.{all_of, none_of}
use Rattle.command_lines.proofs.Putting.{puts_as}
use Rattle.store_commands.proofs.Placed.{broke_there, item_there, more_there}
use Rattle.store_commands.proofs.keys.print_keys.Goals as goal

pub loop-key-init : goal.loop-key-init
loop-key-init g c = none_of (λ (x : Key). line_text (Keyed x)) c.args.keys.now (g.K.Sink.known c.args.out.now)

pub loop-key-preserved : goal.loop-key-preserved
loop-key-preserved g c =
    let k = g.K.Sink.known in
    more_there (λ (x : Key). line_text (Keyed x)) c.args.keys.now c.loop-key.key-index c.key-item.result
    (k c.args.out.now) (k c.loop-key.out) (k c.print_key.new.out)
    (item_there c.args.keys.now c.loop-key.key-index c.key-item.result
    (omega (arith, c.loop-key-test.true)) c.key-item.is)
    c.loop-key.invariant c.in_ok-print_key.ensures

pub returns-in_err-print_key : goal.returns-in_err-print_key
returns-in_err-print_key g c =
    let k = g.K.Sink.known in
    let p = err_from_is_err_and c.from_residual.result c.from_residual.ensures.1 in
    rw (p.1, p.2)
    (puts_as _ _ (k c.args.out.now) (k c.print_key.new.out) (Err c.in_err-print_key.field-0.0)
    (lines_of Keyed c.args.keys.now)
    (broke_there (λ (x : Key). line_text (Keyed x)) c.args.keys.now c.loop-key.key-index c.key-item.result
    (k c.args.out.now) (k c.loop-key.out) (k c.print_key.new.out) c.in_err-print_key.field-0.0
    (item_there c.args.keys.now c.loop-key.key-index c.key-item.result
    (omega (arith, c.loop-key-test.true)) c.key-item.is)
    c.loop-key.invariant c.in_err-print_key.ensures))

pub returns : goal.returns
returns g c =
    let k = g.K.Sink.known in
    puts_as _ _ (k c.args.out.now) (k c.loop-key.out) (Ok tt) (lines_of Keyed c.args.keys.now)
    (all_of (λ (x : Key). line_text (Keyed x)) c.args.keys.now c.loop-key.key-index (k c.args.out.now)
    (k c.loop-key.out) (omega (arith, c.loop-key-test.false)) c.loop-key.invariant)
