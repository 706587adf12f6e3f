-- The store was not compacted, or its lengths were printed, or not to their end.
use Rattle.std.proofs.lemmas.Result.{err_from_is_err_and}
use Rattle.store_commands.proofs.Compacted.{compacted, compacted_broken, not_compacted}
use Rattle.store_commands.proofs.compacting.compact.Goals as goal

pub returns-in_err-sizes : goal.returns-in_err-sizes
returns-in_err-sizes g c =
    let r = g.T.Opened.Replica in
    let p = err_from_is_err_and c.from_residual.result c.from_residual.ensures.1 in
    rw (p.1, p.2)
    (not_compacted r.known r.is_open r.crash g.met.T.Opened.Replica.settled g.T.Store.image_in _ _ _ _
    c.in_err-sizes.ensures)

pub returns-in_err-print_compacted : goal.returns-in_err-print_compacted
returns-in_err-print_compacted g c =
    let r = g.T.Opened.Replica in
    let p = err_from_is_err_and c.from_residual-in_err-print_compacted.result
    c.from_residual-in_err-print_compacted.ensures.1 in
    rw (p.1, p.2)
    (compacted_broken r.known r.is_open r.crash g.met.T.Opened.Replica.settled g.T.Store.image_in _ _ _ _ _ _
    c.in_ok-sizes.ensures c.in_err-print_compacted.ensures)

pub returns : goal.returns
returns g c =
    let r = g.T.Opened.Replica in
    compacted r.known r.is_open r.crash g.met.T.Opened.Replica.settled g.T.Store.image_in _ _ _ _ _ _
    c.in_ok-sizes.ensures c.in_ok-print_compacted.ensures
