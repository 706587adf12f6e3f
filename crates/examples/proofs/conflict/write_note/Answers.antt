-- What is made is current.
use Rattle.std.proofs.Common.{inl, refl}
use Rattle.std.specs.Option.{option_copied}
use Rattle.replica_core.specs.Replica.{state_in}
use Rattle.replica_core.specs.CallsFaults.{put_failure}
use Rattle.replica_core.specs.declared.calls.documents.PutFault.TheVariants.{Memory}
use Rattle.replica_core.proofs.CallsEnds.{undone}
use Rattle.examples.proofs.Notes.{is_document, ok_so, put_reads}
use Rattle.examples.proofs.conflict.write_note.Goals as goal

pub returns-clause-reads : goal.returns-clause-reads
returns-clause-reads g c =
    let known = g.R.Replica.known in
    let notes = c.args.notes.now in
    ok_so c.put_doc.result (λ rev done.
    put_reads c.args.seed (state_in (known notes)) (state_in (known c.put_doc.new.replica)) c.args.id.now
    (option_copied c.as_ref.result) c.args.text.now rev
    (is_document (known notes).state c.args.id.now) done.0 done.1) c.put_doc.ensures.ok

pub returns-in_default-clause-done : goal.returns-in_default-clause-done
returns-in_default-clause-done g c =
    undone g.R.Replica.known g.R.Replica.is_open g.R.Replica.crash put_failure c.args.notes.now _ Memory c.requires
    (λ found h. g.met.R.Replica.settled c.args.notes.now found c.requires h) (inl refl)
