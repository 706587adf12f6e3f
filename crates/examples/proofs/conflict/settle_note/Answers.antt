-- All revisions are named, so what is made of them stands alone.
use Rattle.std.proofs.Common.{◌≡◌, inl, refl, List, subst}
use Rattle.std.specs.Prelude.{Some}
use Rattle.vector_rev.specs.Clock.{Clock}
use Rattle.replica_state.specs.Held.{Held, meaning}
use Rattle.replica_core.specs.Calls.{IsDone}
use Rattle.replica_core.specs.CallsDecide.{resolve_decides}
use Rattle.replica_core.specs.CallsFaults.{resolve_failure}
use Rattle.replica_core.specs.Replica.{state_in}
use Rattle.replica_core.specs.declared.calls.resolutions.ResolveDocFault.TheVariants.{Memory}
use Rattle.replica_core.proofs.CallsEnds.{undone}
use Rattle.examples.specs.Notes.{conflicting_in}
use Rattle.examples.proofs.Notes.{is_document, ok_so, on_ok}
use Rattle.examples.proofs.Settling.{settle_ends, settle_reads}
use Rattle.examples.proofs.conflict.settle_note.Goals as goal

pub returns-clause-done : goal.returns-clause-done
returns-clause-done g c =
    let r = g.R.Replica in
    let notes = c.args.notes.now in
    let s = state_in (r.known notes) in
    let all : c.in-Ok.all ≡ conflicting_in (s.document c.args.id.now) =
    subst (λ (h : Held). c.in-Ok.all ≡ conflicting_in ((meaning h).document c.args.id.now)) c.state.ensures
    c.in-Ok.ensures in
    subst (λ (named : List Clock). IsDone r.known r.is_open r.crash resolve_failure
    (resolve_decides c.args.seed c.args.id.now named (Some c.args.text.now) s) notes c.resolve_doc.new.replica
    c.resolve_doc.result)
    all c.resolve_doc.ensures

pub returns-clause-reads : goal.returns-clause-reads
returns-clause-reads g c =
    let known = g.R.Replica.known in
    let s = state_in (known c.args.notes.now) in
    ok_so c.resolve_doc.result (λ rev done.
    settle_reads c.args.seed s (state_in (known c.resolve_doc.new.replica)) c.args.id.now c.args.text.now rev
    (is_document (known c.args.notes.now).state c.args.id.now) done.0 done.1)
    (returns-clause-done g c).ok

pub returns-clause-settled : goal.returns-clause-settled
returns-clause-settled g c =
    let known = g.R.Replica.known in
    let s = state_in (known c.args.notes.now) in
    on_ok c.resolve_doc.result (λ rev done.
    settle_ends c.args.seed s (state_in (known c.resolve_doc.new.replica)) c.args.id.now c.args.text.now rev
    (is_document (known c.args.notes.now).state c.args.id.now) done.0 done.1)
    (returns-clause-done g c).ok

pub returns-in_default-clause-done : goal.returns-in_default-clause-done
returns-in_default-clause-done g c =
    undone g.R.Replica.known g.R.Replica.is_open g.R.Replica.crash resolve_failure c.args.notes.now _ Memory c.requires
    (λ found h. g.met.R.Replica.settled c.args.notes.now found c.requires h) (inl refl)
