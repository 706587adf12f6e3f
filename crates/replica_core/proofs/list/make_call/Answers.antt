-- Each call of the list ends as the call that it makes, without its answer.
use Rattle.std.proofs.Common.{◌∙◌, ap, sym, Option}
use Rattle.std.specs.Option.{option_copied}
use Rattle.content.specs.Tree.{Tree}
use Rattle.vector_rev.specs.Clock.{Clock}
use Rattle.replica_core.specs.Replica.{state_in}
use Rattle.replica_core.specs.CallsDecide.{delete_decides, delete_index_decides, move_decides, put_decides}
use Rattle.replica_core.specs.CallsDecide.{resolve_decides, take_decides}
use Rattle.replica_core.specs.CallsFaults.{index_failure, put_failure, resolve_failure, take_failure}
use Rattle.replica_core.specs.Runs.{bare, call_decides}
use Rattle.replica_core.specs.declared.list.Call.{Call}
use Rattle.replica_core.proofs.Runs.{bared_to}
use Rattle.replica_core.proofs.list.make_call.Goals as goal

pub returns-in-PutDoc : goal.returns-in-PutDoc
returns-in-PutDoc g c =
    let s = state_in (g.R.Replica.known c.args.replica.now) in
    bared_to g.R.Replica.known g.R.Replica.is_open g.R.Replica.crash put_failure
    (put_decides c.in-PutDoc.seed c.in-PutDoc.id (option_copied c.as_ref.result) c.in-PutDoc.content s) _
    c.args.replica.now c.put_doc.new.replica c.put_doc.result _
    (ap (λ (x : Call). call_decides x s) c.in-PutDoc.is
    ∙ ap (λ (o : Option Clock). bare (put_decides c.in-PutDoc.seed c.in-PutDoc.id o c.in-PutDoc.content s))
    (sym c.as_ref.ensures.value)) c.end_of_put.ensures c.put_doc.ensures

pub returns-in-DeleteDoc : goal.returns-in-DeleteDoc
returns-in-DeleteDoc g c =
    let s = state_in (g.R.Replica.known c.args.replica.now) in
    bared_to g.R.Replica.known g.R.Replica.is_open g.R.Replica.crash put_failure
    (delete_decides c.in-DeleteDoc.seed c.in-DeleteDoc.id c.in-DeleteDoc.rev s) _ c.args.replica.now
    c.delete_doc.new.replica c.delete_doc.result _
    (ap (λ (x : Call). call_decides x s) c.in-DeleteDoc.is) c.end_of_put-in-DeleteDoc.ensures c.delete_doc.ensures

pub returns-in-ResolveDoc : goal.returns-in-ResolveDoc
returns-in-ResolveDoc g c =
    let s = state_in (g.R.Replica.known c.args.replica.now) in
    bared_to g.R.Replica.known g.R.Replica.is_open g.R.Replica.crash resolve_failure
    (resolve_decides c.in-ResolveDoc.seed c.in-ResolveDoc.id c.in-ResolveDoc.named
    (option_copied c.as_ref-in-ResolveDoc.result) s) _ c.args.replica.now c.resolve_doc.new.replica
    c.resolve_doc.result _
    (ap (λ (x : Call). call_decides x s) c.in-ResolveDoc.is
    ∙ ap (λ (o : Option Tree). bare
    (resolve_decides c.in-ResolveDoc.seed c.in-ResolveDoc.id c.in-ResolveDoc.named o s))
    (sym c.as_ref-in-ResolveDoc.ensures.value)) c.end_of_resolve.ensures c.resolve_doc.ensures

pub returns-in-PutIfNewer : goal.returns-in-PutIfNewer
returns-in-PutIfNewer g c =
    let s = state_in (g.R.Replica.known c.args.replica.now) in
    bared_to g.R.Replica.known g.R.Replica.is_open g.R.Replica.crash take_failure
    (take_decides c.in-PutIfNewer.seed c.in-PutIfNewer.id c.in-PutIfNewer.incoming c.in-PutIfNewer.save
    c.in-PutIfNewer.moved s) _ c.args.replica.now c.put_if_newer.new.replica c.put_if_newer.result _
    (ap (λ (x : Call). call_decides x s) c.in-PutIfNewer.is) c.end_of_take.ensures c.put_if_newer.ensures

pub returns-in-MovePosition : goal.returns-in-MovePosition
returns-in-MovePosition g c =
    let s = state_in (g.R.Replica.known c.args.replica.now) in
    bared_to g.R.Replica.known g.R.Replica.is_open g.R.Replica.crash take_failure
    (move_decides c.in-MovePosition.moved s) _ c.args.replica.now c.move_position.new.replica c.move_position.result _
    (ap (λ (x : Call). call_decides x s) c.in-MovePosition.is) c.end_of_move.ensures c.move_position.ensures

pub returns-in-DeleteIndex : goal.returns-in-DeleteIndex
returns-in-DeleteIndex g c =
    let s = state_in (g.R.Replica.known c.args.replica.now) in
    bared_to g.R.Replica.known g.R.Replica.is_open g.R.Replica.crash index_failure
    (delete_index_decides c.in-DeleteIndex.name s) _ c.args.replica.now c.delete_index.new.replica
    c.delete_index.result _
    (ap (λ (x : Call). call_decides x s) c.in-DeleteIndex.is) c.end_of_index.ensures c.delete_index.ensures
