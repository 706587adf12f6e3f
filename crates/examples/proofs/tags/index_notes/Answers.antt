-- The index has this one expression.
use Rattle.std.proofs.Common.{◌∙◌, ap, inl, refl}
use Rattle.std.specs.Prelude.{Some}
use Rattle.replica_core.specs.CallsFaults.{index_failure}
use Rattle.replica_core.specs.Replica.{state_in}
use Rattle.replica_core.specs.declared.calls.indexes.IndexFault.TheVariants.{Memory}
use Rattle.replica_core.proofs.CallsEnds.{undone}
use Rattle.examples.proofs.Indexing.{created_there}
use Rattle.examples.proofs.Notes.{on_ok}
use Rattle.examples.proofs.tags.index_notes.Goals as goal

pub returns-clause-indexed : goal.returns-clause-indexed
returns-clause-indexed g c =
    let known = g.R.Replica.known in
    on_ok c.create_index.result (λ unit done.
    created_there (state_in (known c.args.notes.now))
    (state_in (known c.create_index.new.replica)) c.args.name.now c.in-Ok.exprs.texts done.0 done.1
    ∙ ap Some c.in-Ok.ensures)
    c.create_index.ensures.ok

pub returns-in_default-clause-done : goal.returns-in_default-clause-done
returns-in_default-clause-done g c =
    undone g.R.Replica.known g.R.Replica.is_open g.R.Replica.crash index_failure c.args.notes.now _ Memory
    c.requires.open
    (λ found h. g.met.R.Replica.settled c.args.notes.now found c.requires.open h) (inl refl)
