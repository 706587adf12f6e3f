-- The mark makes it fit.
use Rattle.std.proofs.Common.{option_copied}
use Rattle.u1_base.proofs.Booleans.{not_both}
use Rattle.replica_state.proofs.Sets.{mark_same}
use Rattle.replica_state.proofs.accepting.make_fit.Goals as goal

pub returns-then-not-fits-clause-same : goal.returns-then-not-fits-clause-same
returns-then-not-fits-clause-same c = mark_same (option_copied c.args.set) c.args.accept.now c.requires
    (λ f. not_both c.fits.result (c.fits.ensures.1 f) c.if-not-fits.true)
