-- What was asked for is covered.
use Rattle.replica_core.specs.Replica.{state_in}
use Rattle.examples.proofs.Notes.{is_document, on_ok, take_keeps}
use Rattle.examples.proofs.conflict.take_note.Goals as goal

pub returns-clause-kept : goal.returns-clause-kept
returns-clause-kept g c =
    let known = g.R.Replica.known in
    on_ok c.put_if_newer.result (λ taken done.
    take_keeps c.args.seed (state_in (known c.args.notes.now))
    (state_in (known c.put_if_newer.new.replica)) c.args.id.now c.args.theirs.now c.args.at.now taken
    (is_document (known c.args.notes.now).state c.args.id.now) done.0 done.1) c.put_if_newer.ensures.ok
