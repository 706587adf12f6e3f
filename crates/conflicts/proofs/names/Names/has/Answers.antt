-- The sorted names are these.
use Rattle.std.proofs.Common.{rules, ◌∙◌, ap}
use Rattle.std.specs.List.{list_any}
use Rattle.vector_rev.specs.Compare.{same}
use Rattle.conflicts.proofs.names.Names.has.Goals as goal

pub returns-else-is_empty : goal.returns-else-is_empty
returns-else-is_empty c =
    c.is_found.ensures
    ∙ ap (list_any (λ n. same n.now c.args.rev.now)) c.as_slice.ensures.value
    ∙ c.args.self.now.these c.args.rev.now (search rules)
