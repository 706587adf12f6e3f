-- The image was spelled, and put in place or not.
use Rattle.std.proofs.Common.{List, ℕ, refl, subst}
use Rattle.disks.specs.Disks.{disks_known}
use Rattle.journal.specs.Spelled.{Spells}
use Rattle.replica_volume.proofs.Places.{not_put, put_leaves, put_length, put_stands}
use Rattle.replica_volume.proofs.placing.put_spelled.Goals as goal

pub returns-in_err-image-clause-any_moment : goal.returns-in_err-image-clause-any_moment
returns-in_err-image-clause-any_moment g c t h is =
    not_put c.args.header.now h c.args.to (disks_known g.D.Disk.known c.args.disks.now)

pub returns-in_err-journal-clause-any_moment : goal.returns-in_err-journal-clause-any_moment
returns-in_err-journal-clause-any_moment g c t h is =
    let known = g.D.Disk.known in let image = c.in_ok-image.image in
    put_leaves c.args.header.now h c.args.spelled image c.args.to is
    (subst (λ (l : List (List ℕ)). Spells c.args.header.now l image) c.as_slice.ensures c.in_ok-image.ensures)
    (disks_known known c.args.disks.now) (disks_known known c.put_in_place.new.disks)
    (c.in_err-journal.ensures.any_moment t)

pub returns-clause-ok : goal.returns-clause-ok
returns-clause-ok g c t h is =
    let known = g.D.Disk.known in let image = c.in_ok-image.image in
    put_stands c.args.header.now h c.args.spelled image c.args.to is
    (subst (λ (l : List (List ℕ)). Spells c.args.header.now l image) c.as_slice.ensures c.in_ok-image.ensures) _
    (disks_known known c.put_in_place.new.disks).files refl refl (c.in_ok-journal.ensures.ok t)

pub returns-clause-any_moment : goal.returns-clause-any_moment
returns-clause-any_moment g c t h is =
    let known = g.D.Disk.known in let image = c.in_ok-image.image in
    put_leaves c.args.header.now h c.args.spelled image c.args.to is
    (subst (λ (l : List (List ℕ)). Spells c.args.header.now l image) c.as_slice.ensures c.in_ok-image.ensures)
    (disks_known known c.args.disks.now) (disks_known known c.put_in_place.new.disks)
    (c.in_ok-journal.ensures.any_moment t)

pub returns-clause-length : goal.returns-clause-length
returns-clause-length g c h is =
    let image = c.in_ok-image.image in
    put_length c.args.header.now h c.args.spelled image c.args.to is
    (subst (λ (l : List (List ℕ)). Spells c.args.header.now l image) c.as_slice.ensures c.in_ok-image.ensures)
    c.in_ok-journal.journal c.in_ok-journal.ensures.journal
