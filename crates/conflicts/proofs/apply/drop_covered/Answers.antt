-- The closure keeps what the revision does not cover.
use Rattle.std.proofs.Common.{rules}
use Rattle.std.specs.Prelude.{not}
use Rattle.std.proofs.lemmas.Fn.{filter_same}
use Rattle.vector_rev.specs.Clock.{covers}
use Rattle.conflicts.proofs.apply.drop_covered.Goals as goal

pub returns : goal.returns
returns c =
    filter_same _ (λ m. not (covers c.args.rev.now m.rev)) _ (λ x b f' k. search rules) _ _ c.retain.ensures.filtered
