-- Each command that makes a step, as it is over the open replica, with its input.
use Rattle.std.proofs.Common.{Ok, [], refl}
use Rattle.std.proofs.lemmas.Result.{err_from_is_err_and}
use Rattle.cli_words.specs.declared.command.Command.TheVariants.{Edit}
use Rattle.cli_words.specs.declared.command.Edit.TheVariants as edit
use Rattle.replica_state.specs.Held.{lists_of}
use Rattle.store_commands.proofs.Built.{few_exprs}
use Rattle.store_commands.proofs.Taken.{untaken, with_input, without_input}
use Rattle.store_commands.proofs.doing.edit_in.Goals as goal

pub returns-in_err-content-in-Create : goal.returns-in_err-content-in-Create
returns-in_err-content-in-Create g c before after =
    let r = g.R.Replica in
    let p = err_from_is_err_and c.from_residual.result c.from_residual.ensures.1 in
    rw (p.1, p.2, c.in-Create.is)
    (untaken r.known r.is_open r.crash g.met.R.Replica.settled (Edit (edit.Create c.in-Create.id)) c.args.seed (Ok []) refl
    (λ h. cc) (lists_of (r.known c.args.replica.now).state) before after
    c.args.replica.now _ _ c.requires.open refl _ c.in_err-content-in-Create.ensures)

pub returns-in_ok-content-in-Create : goal.returns-in_ok-content-in-Create
returns-in_ok-content-in-Create g c before after =
    let r = g.R.Replica in
    rw c.in-Create.is
    (with_input r.known r.is_open r.crash g.met.R.Replica.settled (Edit (edit.Create c.in-Create.id)) c.args.seed
    (Ok []) refl (λ h. cc) (lists_of (r.known c.args.replica.now).state) before after
    _ _ _ _ _ _ _ _ refl c.in_ok-content-in-Create.ensures refl c.create.ensures)

pub returns-in_err-content-in-Put : goal.returns-in_err-content-in-Put
returns-in_err-content-in-Put g c before after =
    let r = g.R.Replica in
    let p = err_from_is_err_and c.from_residual-in_err-content-in-Put.result
    c.from_residual-in_err-content-in-Put.ensures.1 in
    rw (p.1, p.2, c.in-Put.is)
    (untaken r.known r.is_open r.crash g.met.R.Replica.settled (Edit (edit.Put c.in-Put.id c.in-Put.rev)) c.args.seed
    (Ok []) refl (λ h. cc) (lists_of (r.known c.args.replica.now).state) before after
    c.args.replica.now _ _ c.requires.open refl _ c.in_err-content-in-Put.ensures)

pub returns-in_ok-content-in-Put : goal.returns-in_ok-content-in-Put
returns-in_ok-content-in-Put g c before after =
    let r = g.R.Replica in
    rw c.in-Put.is
    (with_input r.known r.is_open r.crash g.met.R.Replica.settled (Edit (edit.Put c.in-Put.id c.in-Put.rev)) c.args.seed
    (Ok []) refl (λ h. cc) (lists_of (r.known c.args.replica.now).state) before after
    _ _ _ _ _ _ _ _ refl c.in_ok-content-in-Put.ensures refl (rw c.as_ref.ensures.value at c.put.ensures))

pub returns-in_err-content-in-Resolve : goal.returns-in_err-content-in-Resolve
returns-in_err-content-in-Resolve g c before after =
    let r = g.R.Replica in
    let p = err_from_is_err_and c.from_residual-in_err-content-in-Resolve.result
    c.from_residual-in_err-content-in-Resolve.ensures.1 in
    rw (p.1, p.2, c.in-Resolve.is)
    (untaken r.known r.is_open r.crash g.met.R.Replica.settled
    (Edit (edit.Resolve c.in-Resolve.id c.in-Resolve.revs)) c.args.seed (Ok []) refl (λ h. cc)
    (lists_of (r.known c.args.replica.now).state) before after
    c.args.replica.now _ _ c.requires.open refl _ c.in_err-content-in-Resolve.ensures)

pub returns-in_ok-content-in-Resolve : goal.returns-in_ok-content-in-Resolve
returns-in_ok-content-in-Resolve g c before after =
    let r = g.R.Replica in
    rw c.in-Resolve.is
    (with_input r.known r.is_open r.crash g.met.R.Replica.settled
    (Edit (edit.Resolve c.in-Resolve.id c.in-Resolve.revs)) c.args.seed (Ok []) refl (λ h. cc)
    (lists_of (r.known c.args.replica.now).state) before after
    _ _ _ _ _ _ _ _ refl c.in_ok-content-in-Resolve.ensures refl c.resolve.ensures)

pub returns-in-Delete : goal.returns-in-Delete
returns-in-Delete g c before after =
    let r = g.R.Replica in
    rw c.in-Delete.is
    (without_input r.known r.is_open r.crash g.met.R.Replica.settled
    (Edit (edit.Delete c.in-Delete.id c.in-Delete.rev)) c.args.seed (Ok []) refl (λ h. cc)
    (lists_of (r.known c.args.replica.now).state) before after
    _ _ _ _ _ _ refl refl c.delete.ensures)

pub returns-in-ResolveDeleted : goal.returns-in-ResolveDeleted
returns-in-ResolveDeleted g c before after =
    let r = g.R.Replica in
    rw c.in-ResolveDeleted.is
    (without_input r.known r.is_open r.crash g.met.R.Replica.settled
    (Edit (edit.ResolveDeleted c.in-ResolveDeleted.id c.in-ResolveDeleted.revs)) c.args.seed (Ok []) refl (λ h. cc)
    (lists_of (r.known c.args.replica.now).state) before after
    _ _ _ _ _ _ refl refl c.resolve_deleted.ensures)

pub returns-in-IndexDelete : goal.returns-in-IndexDelete
returns-in-IndexDelete g c before after =
    let r = g.R.Replica in
    rw c.in-IndexDelete.is
    (without_input r.known r.is_open r.crash g.met.R.Replica.settled
    (Edit (edit.IndexDelete c.in-IndexDelete.name)) c.args.seed (Ok []) refl (λ h. cc)
    (lists_of (r.known c.args.replica.now).state) before after
    _ _ _ _ _ _ refl refl c.index_delete.ensures)

pub index_create-requires : goal.index_create-requires
index_create-requires g c =
    let few = few_exprs c.in-IndexCreate.name c.in-IndexCreate.exprs (rw c.in-IndexCreate.is at c.requires.built) in
    record { «open» = c.requires.«open»; some = rw c.as_slice.ensures few.0; few = rw c.as_slice.ensures few.1 }

pub returns-in-IndexCreate : goal.returns-in-IndexCreate
returns-in-IndexCreate g c before after =
    let r = g.R.Replica in
    let done = rw c.as_slice.ensures at c.index_create.ensures in
    rw c.in-IndexCreate.is
    (without_input r.known r.is_open r.crash g.met.R.Replica.settled
    (Edit (edit.IndexCreate c.in-IndexCreate.name c.in-IndexCreate.exprs)) c.args.seed done.0 done.1 (λ h. cc)
    (lists_of (r.known c.args.replica.now).state) before after
    _ _ _ _ _ _ refl refl done.2)
