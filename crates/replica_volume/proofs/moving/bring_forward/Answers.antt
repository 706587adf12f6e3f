-- An image of format 2 stays where it is, and one of format 1 is moved.
use Rattle.std.proofs.Common.{◌≡◌, ◌≢◌, refl, ◌∙◌, arith}
use Rattle.conflicts.specs.State.{History}
use Rattle.disks.specs.declared.name.DiskName.TheVariants.{Root}
use Rattle.disks.specs.Disks.{disks_known}
use Rattle.replica_volume.specs.inner.Placing.{SaysSteps, StandsWith}
use Rattle.replica_volume.proofs.Moves.{finished_with, moved_with, stands_in_second, stays_same}
use Rattle.replica_volume.proofs.moving.bring_forward.Goals as goal

-- ---- the image stands in format 2

pub returns-then-format-ne-FIRST_FORMAT-clause-any_moment : goal.returns-then-format-ne-FIRST_FORMAT-clause-any_moment
returns-then-format-ne-FIRST_FORMAT-clause-any_moment g c t =
    let image = c.args.image in let says = c.requires.says in
    stays_same image.journal c.args.side image says.0 c.args.made.uids.uids says.1
    (disks_known g.D.Disk.known c.args.disks.now) (c.requires.store t)

pub returns-then-format-ne-FIRST_FORMAT-clause-ok : goal.returns-then-format-ne-FIRST_FORMAT-clause-ok
returns-then-format-ne-FIRST_FORMAT-clause-ok g c t =
    let image = c.args.image in let uids = c.args.made.uids in
    let files = (disks_known g.D.Disk.known c.args.disks.now).files in
    finished_with c.finish.result c.stay.result _
    (λ s. (h : History) → SaysSteps image h uids.uids → StandsWith image.header h s files)
    c.finish.ensures.standing c.stay.ensures
    (λ h says. stands_in_second image.journal c.args.side image h uids.uids says uids files refl
    (λ e. c.if-format-ne-FIRST_FORMAT.true (c.format.ensures ∙ e)) (c.requires.store t))

pub returns-then-format-ne-FIRST_FORMAT-clause-side : goal.returns-then-format-ne-FIRST_FORMAT-clause-side
returns-then-format-ne-FIRST_FORMAT-clause-side g c =
    finished_with c.finish.result c.stay.result _ (λ s. s.side ≢ Root) c.finish.ensures.standing c.stay.ensures
    c.requires.side

pub returns-then-format-ne-FIRST_FORMAT-clause-limit : goal.returns-then-format-ne-FIRST_FORMAT-clause-limit
returns-then-format-ne-FIRST_FORMAT-clause-limit g c =
    finished_with c.finish.result c.stay.result _ (λ s. s.journal.limit ≡ c.args.image.header.limit)
    c.finish.ensures.standing c.stay.ensures c.requires.extent.limit

pub returns-then-format-ne-FIRST_FORMAT-clause-cause : goal.returns-then-format-ne-FIRST_FORMAT-clause-cause
returns-then-format-ne-FIRST_FORMAT-clause-cause g c =
    record { later = omega arith; failed = λ e. absurd (c.finish.ensures.memory e) }

-- ---- it is moved

pub returns-clause-ok : goal.returns-clause-ok
returns-clause-ok g c t =
    moved_with c.args.image c.args.made.uids.uids (disks_known g.D.Disk.known c.move_and_finish-finished.new.disks).files
    c.move_and_finish-finished.result (c.move_and_finish-finished.ensures.ok t)
