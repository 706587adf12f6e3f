-- The disks were turned to the side of the store, and the entries were added there.
use Rattle.std.proofs.Common.{sym, subst}
use Rattle.journal.specs.Image.{ReadsWithOrWithoutAll}
use Rattle.journal.specs.Journal.{Holds}
use Rattle.disks.specs.Disks.{disks_known}
use Rattle.disks.proofs.Turned.{file_before, file_after, leaves_joint, same_elsewhere}
use Rattle.volume.proofs.Adds.{all_run, all_more}
use Rattle.volume.proofs.appending.append_all_on.Goals as goal

pub append_all-requires-clause-holds : goal.append_all-requires-clause-holds
append_all-requires-clause-holds g c t =
    let store = c.requires.store t in (
      store.0,
      store.1,
      store.2,
      subst (Holds c.args.journal.now store.0 store.1 store.2)
          (sym (file_before g.D.Disk.known c.args.disks.now c.turn_to.new.self c.args.side c.turn_to.ensures))
          store.3.image,
    )

pub returns-clause-ok : goal.returns-clause-ok
returns-clause-ok g c t =
    let known = g.D.Disk.known in let old = c.args.disks.now in let mid = c.turn_to.new.self
    in let new = c.append_all.new.disk in
    let side = c.args.side in let turned = c.turn_to.ensures in let kept = c.append_all.ensures.beside t in
    all_more c.append_all.result c.args.entries.now side c.args.journal.now c.append_all.new.self
    (disks_known known old).files (disks_known known new).files _ _ c.requires.side
    (same_elsewhere known old mid new side turned kept) (file_before known old mid side turned)
    (file_after known old mid new side turned kept)
    (c.append_all.ensures.ok t)

pub returns-clause-any_moment : goal.returns-clause-any_moment
returns-clause-any_moment g c t more are format head bodies store =
    let known = g.D.Disk.known in let old = c.args.disks.now in let mid = c.turn_to.new.self
    in let new = c.append_all.new.disk in
    let side = c.args.side in let turned = c.turn_to.ensures in
    all_run more side format head bodies (disks_known known old) (disks_known known new) c.args.journal.now
    c.requires.side store
    (leaves_joint known old mid new side turned (ReadsWithOrWithoutAll more format head bodies)
    (c.append_all.ensures.any_moment t more are format head bodies
    (subst (Holds c.args.journal.now format head bodies) (sym (file_before known old mid side turned)) store.image)))
