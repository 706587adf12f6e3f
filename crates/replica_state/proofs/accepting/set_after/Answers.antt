-- A newer member leaves all as it is; else the acceptance is made to fit.
use Rattle.std.proofs.Common.{◌∙◌, sym, option_copied}
use Rattle.replica_state.proofs.Sets.{nothing_new}
use Rattle.replica_state.proofs.accepting.set_after.Goals as goal

pub returns-then-has_newer : goal.returns-then-has_newer
returns-then-has_newer c = nothing_new (option_copied c.args.set) c.args.accept
    (sym c.has_newer.ensures ∙ c.if-has_newer.true)

pub returns : goal.returns
returns c = c.in_ok-after.ensures ∙ c.make_fit.ensures.same
