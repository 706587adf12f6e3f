-- The closure keeps the indexes of other names.
use Rattle.std.proofs.Common.{rules}
use Rattle.std.specs.Prelude.{not}
use Rattle.std.proofs.lemmas.Fn.{filter_same}
use Rattle.u1_base.specs.Ids.{same_id}
use Rattle.replica_state.proofs.naming.drop_index.Goals as goal

pub returns : goal.returns
returns c =
    filter_same _ (λ x. not (same_id c.args.name.now x.name)) _ (λ x b f' k. search rules) _ _ c.retain.ensures.filtered
