-- The two tests are the two facts.
use Rattle.conflicts.proofs.Fitting.{fits_is}
use Rattle.conflicts.proofs.apply.fits_beside.Goals as goal

pub returns : goal.returns
returns c =
    fits_is c.args.set.now c.args.accept.now c.has_newer.result c.covers.result c.current.result.now
    c.has_newer.ensures c.current.ensures c.covers.ensures
