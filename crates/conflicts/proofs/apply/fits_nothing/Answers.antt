-- Only a mark counts.
use Rattle.conflicts.proofs.Fitting.{fits_none}
use Rattle.conflicts.proofs.apply.fits_nothing.Goals as goal

pub returns : goal.returns
returns c = fits_none c.args.accept.now
