-- A look at the first item.
use Rattle.std.proofs.Common.{refl}
use Rattle.std.proofs.lemmas.List.Elements.{at_read}
use Rattle.std.specs.Fn.{FnReturnsAt}
use Rattle.chunk_list.proofs.search.first_passes.Goals as goal

pub returns : goal.returns
returns g c some =
    at_read c.args.chunk.now.items (λ x. FnReturnsAt g.F.Fn c.args.passes.now x c.passes.result) 0
    c.index.result.now some c.index.ensures
    (record { shown = c.index.result; shows = refl; says = record { met = c.passes.ensures } })
