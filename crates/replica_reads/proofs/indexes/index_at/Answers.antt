-- The index at the place has the name and the expressions that stand there.
use Rattle.std.proofs.Common.{◌∙◌, List, Some, ap}
use Rattle.std.specs.Option.{option_map}
use Rattle.std.specs.Prelude.{slice_get}
use Rattle.replica_state.specs.Held.{Heading, named}
use Rattle.replica_state.specs.inner.Named.{name_of}
use Rattle.replica_reads.proofs.Placing.{named_at}
use Rattle.replica_reads.proofs.indexes.index_at.Goals as goal

pub returns-in-Some : goal.returns-in-Some
returns-in-Some c =
    (λ i. Some (c.name.ensures i, (c.exprs.ensures i).texts))
    ∙ ap (option_map name_of) c.in-Some.ensures
    ∙ named_at c.indexes.result.now c.args.place
    ∙ ap (λ (hs : List Heading). slice_get (named hs) c.args.place) c.indexes.ensures.value

pub returns-in-None : goal.returns-in-None
returns-in-None c =
    ap (option_map name_of) c.in-None.ensures
    ∙ named_at c.indexes.result.now c.args.place
    ∙ ap (λ (hs : List Heading). slice_get (named hs) c.args.place) c.indexes.ensures.value
