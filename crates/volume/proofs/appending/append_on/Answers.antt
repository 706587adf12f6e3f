-- The disks were turned to the side of the store, and a body was added there.
use Rattle.std.proofs.Common.{[], ◌∷◌, sym, subst}
use Rattle.journal.specs.Image.{ReadsWithOrWithout}
use Rattle.journal.specs.Journal.{Holds}
use Rattle.disks.specs.Disks.{disks_known}
use Rattle.disks.proofs.Turned.{file_before, file_after, leaves_joint, same_elsewhere}
use Rattle.volume.proofs.Adds.{all_run, one_more}
use Rattle.volume.proofs.appending.append_on.Goals as goal

pub append-requires-clause-holds : goal.append-requires-clause-holds
append-requires-clause-holds g c t =
    let store = c.requires.store t in (
      store.0,
      store.1,
      store.2,
      subst (Holds c.args.journal.now store.0 store.1 store.2)
          (sym (file_before g.D.Disk.known c.args.disks.now c.turn_to.new.self c.args.side c.turn_to.ensures))
          store.3.image,
    )

pub returns-clause-ok : goal.returns-clause-ok
returns-clause-ok g c t =
    let known = g.D.Disk.known in let old = c.args.disks.now in let mid = c.turn_to.new.self
    in let new = c.append.new.disk in
    let side = c.args.side in let turned = c.turn_to.ensures in let kept = c.append.ensures.beside t in
    one_more c.append.result c.args.body.now side c.args.journal.now c.append.new.self (disks_known known old).files
    (disks_known known new).files _ _ c.requires.side
    (same_elsewhere known old mid new side turned kept) (file_before known old mid side turned)
    (file_after known old mid new side turned kept)
    (c.append.ensures.ok t)

pub returns-clause-any_moment : goal.returns-clause-any_moment
returns-clause-any_moment g c t format head bodies store =
    let known = g.D.Disk.known in let old = c.args.disks.now in let mid = c.turn_to.new.self
    in let new = c.append.new.disk in
    let side = c.args.side in let turned = c.turn_to.ensures in let body = c.args.body.now in
    all_run (body ∷ []) side format head bodies (disks_known known old) (disks_known known new) c.args.journal.now
    c.requires.side store
    (leaves_joint known old mid new side turned (ReadsWithOrWithout body format head bodies)
    (c.append.ensures.any_moment t format head bodies
    (subst (Holds c.args.journal.now format head bodies) (sym (file_before known old mid side turned)) store.image)))
