-- A move that need not be there is read by its table.
use Rattle.std.proofs.Common.{◌≡◌, Ok, subst}
use Rattle.std.proofs.lemmas.Result.{err_from_is_err_and}
use Rattle.record_codec.specs.Bodies.{maybe_table}
use Rattle.record_codec.proofs.StepKinds.{table_stops, moved_some, moved_stops}
use Rattle.record_codec.proofs.reading.read_maybe_moved.Goals as goal

pub returns-in_err-table : goal.returns-in_err-table
returns-in_err-table c =
    let p = err_from_is_err_and c.from_residual.result c.from_residual.ensures.1 in
    rw (p.1, p.2) (table_stops c.args.format c.args.reader.now c.in_err-table.field-0.0 c.in_err-table.ensures)

pub returns-in_err-moved-in-Some : goal.returns-in_err-moved-in-Some
returns-in_err-moved-in-Some c =
    let read = subst (λ o. maybe_table.read c.args.reader.now ≡ Ok (o, c.read_maybe_table.new.reader)) c.in-Some.is
    c.in_ok-table.ensures in
    let p = err_from_is_err_and c.from_residual-in_err-moved-in-Some.result
    c.from_residual-in_err-moved-in-Some.ensures.1 in
    rw (p.1, p.2) (moved_stops c.args.format c.args.reader.now c.read_maybe_table.new.reader c.in-Some.table
    c.in_err-moved-in-Some.field-0.0 read c.in_err-moved-in-Some.ensures)

pub returns-in_ok-moved-in-Some : goal.returns-in_ok-moved-in-Some
returns-in_ok-moved-in-Some c =
    let read = subst (λ o. maybe_table.read c.args.reader.now ≡ Ok (o, c.read_maybe_table.new.reader)) c.in-Some.is
    c.in_ok-table.ensures in
    moved_some c.args.format c.args.reader.now c.read_maybe_table.new.reader c.moved_at.new.reader c.in-Some.table
    c.in_ok-moved-in-Some.moved read c.in_ok-moved-in-Some.ensures
