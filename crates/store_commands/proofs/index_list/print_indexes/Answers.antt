-- Each line behind those before it.
use Rattle.std.proofs.Common.{Ok, Err, arith}
use Rattle.std.proofs.lemmas.Result.{err_from_is_err_and}
use Rattle.replica_state.specs.declared.index.Index.{Index as IndexValue}
use Rattle.replica_core.specs.Commands.Effects.{Index}
use Rattle.store_commands.proofs.IndexLines.{lines_of_indexes, same_index}
use Rattle.command_lines.specs.Lines.{line_text}
use Rattle.command_lines.proofs.Listing.{all_of, none_of}
use Rattle.command_lines.proofs.Putting.{puts_as}
use Rattle.store_commands.proofs.Placed.{broke_there, item_there, more_there}
use Rattle.store_commands.proofs.index_list.print_indexes.Goals as goal

pub loop-index-init : goal.loop-index-init
loop-index-init g c = none_of (λ (x : IndexValue). line_text (Index x.name x.exprs.texts))
    c.indexes-index-items.result.now (g.K.Sink.known c.args.out.now)

pub loop-index-preserved : goal.loop-index-preserved
loop-index-preserved g c =
    let k = g.K.Sink.known in
    more_there (λ (x : IndexValue). line_text (Index x.name x.exprs.texts)) c.indexes-index-items.result.now
    c.loop-index.index-index c.index-item.result
    (k c.args.out.now) (k c.loop-index.out) (k c.print_index.new.out)
    (item_there c.indexes-index-items.result.now c.loop-index.index-index c.index-item.result
    (omega (arith, c.loop-index-test.true)) c.index-item.is)
    c.loop-index.invariant (puts_as _ _ (k c.loop-index.out) (k c.print_index.new.out) (Ok tt)
    (same_index c.index-item.result c.name.result.now c.exprs.result.now c.name.ensures c.exprs.ensures)
    c.in_ok-print_index.ensures)

pub returns-in_err-print_index : goal.returns-in_err-print_index
returns-in_err-print_index g c =
    let k = g.K.Sink.known in
    let p = err_from_is_err_and c.from_residual.result c.from_residual.ensures.1 in
    rw (p.1, p.2)
    (puts_as _ _ (k c.args.out.now) (k c.print_index.new.out) (Err c.in_err-print_index.field-0.0)
    (lines_of_indexes c.indexes-index-items.result.now _ c.indexes-index-items.ensures.value)
    (broke_there (λ (x : IndexValue). line_text (Index x.name x.exprs.texts)) c.indexes-index-items.result.now
    c.loop-index.index-index c.index-item.result
    (k c.args.out.now) (k c.loop-index.out) (k c.print_index.new.out) c.in_err-print_index.field-0.0
    (item_there c.indexes-index-items.result.now c.loop-index.index-index c.index-item.result
    (omega (arith, c.loop-index-test.true)) c.index-item.is)
    c.loop-index.invariant (puts_as _ _ (k c.loop-index.out) (k c.print_index.new.out)
    (Err c.in_err-print_index.field-0.0)
    (same_index c.index-item.result c.name.result.now c.exprs.result.now c.name.ensures c.exprs.ensures)
    c.in_err-print_index.ensures)))

pub returns : goal.returns
returns g c =
    let k = g.K.Sink.known in
    puts_as _ _ (k c.args.out.now) (k c.loop-index.out) (Ok tt)
    (lines_of_indexes c.indexes-index-items.result.now _ c.indexes-index-items.ensures.value)
    (all_of (λ (x : IndexValue). line_text (Index x.name x.exprs.texts)) c.indexes-index-items.result.now
    c.loop-index.index-index (k c.args.out.now) (k c.loop-index.out)
    (omega (arith, c.loop-index-test.false)) c.loop-index.invariant)
