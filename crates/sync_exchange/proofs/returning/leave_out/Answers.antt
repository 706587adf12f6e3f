-- Those are kept that are not seen.
use Rattle.std.proofs.Common.{◌∙◌, rules}
use Rattle.std.specs.Prelude.{not}
use Rattle.std.proofs.lemmas.Fn.{filter_same}
use Rattle.sync_exchange.specs.Seen.{is_seen}
use Rattle.sync_exchange.proofs.Noted.{left_out}
use Rattle.sync_exchange.proofs.returning.leave_out.Goals as goal

pub returns : goal.returns
returns c held sees =
    let pairs = c.args.seen.now.pairs in
    filter_same _ (λ x. not (is_seen pairs x)) _ (λ x b f' k. search rules) _ _ c.retain.ensures.filtered
    ∙ left_out pairs held c.args.changes.now.items sees
