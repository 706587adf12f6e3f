-- An index is lent exactly where there is one.
use Rattle.std.proofs.Common.{◌∙◌}
use Rattle.replica_state.proofs.Fitting.{is_lent}
use Rattle.replica_state.proofs.fits.has_index.Goals as goal

pub returns : goal.returns
returns c = c.is_some.ensures ∙ is_lent c.args.state.now c.args.name.now c.index_table.result c.index_table.ensures
