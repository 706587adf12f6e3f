-- The root was synced and looked at.
use Rattle.std.proofs.Common.{[], refl, sym, ◌∙◌, subst, Err, List, ℕ}
use Rattle.std.proofs.lemmas.Result.{err_from_is_err_and}
use Rattle.disks.specs.declared.name.DiskName.TheVariants.{Root}
use Rattle.disks.specs.Disks.{disks_known}
use Rattle.volume.specs.inner.Opening.{RootNames}
use Rattle.disks.specs.declared.fault.OpenFault.TheVariants as fault
use Rattle.volume.proofs.Opens.{looks, blank_names, names_image, root_names, witnessed}
use Rattle.volume.proofs.opening.named_side.Goals as goal

pub returns-in_err-front_synced_on-clause-reads : goal.returns-in_err-front_synced_on-clause-reads
returns-in_err-front_synced_on-clause-reads g c =
    let why = err_from_is_err_and c.from_residual.result c.from_residual.ensures.1 in
    rw (why.1, why.2) ((disks_known g.D.Disk.known c.args.disks.now).files.root.seen, (λ t. refl), tt)

pub returns-in_err-front_synced_on-clause-looks : goal.returns-in_err-front_synced_on-clause-looks
returns-in_err-front_synced_on-clause-looks g c t =
    let known = g.D.Disk.known in let looked = c.in_err-front_synced_on.ensures in
    looks Root (disks_known known c.args.disks.now) (disks_known known c.front_synced_on.new.disks) (looked.seen t)
    (looked.stays_settled t) (looked.others t) (looked.any_moment t)

pub returns-in-None-clause-reads : goal.returns-in-None-clause-reads
returns-in-None-clause-reads g c =
    let root = (disks_known g.D.Disk.known c.args.disks.now).files.root.seen in
    witnessed g.D.Disk.tells root [] (λ (bytes : List ℕ). RootNames bytes (Err fault.Blank))
    (λ t. blank_names root (sym (c.in_ok-front_synced_on.ensures.value t) ∙ c.in-None.is)) refl

pub returns-in-None-clause-looks : goal.returns-in-None-clause-looks
returns-in-None-clause-looks g c t =
    let known = g.D.Disk.known in let looked = c.in_ok-front_synced_on.ensures in
    looks Root (disks_known known c.args.disks.now) (disks_known known c.front_synced_on.new.disks) (looked.seen t)
    (looked.stays_settled t) (looked.others t) (looked.any_moment t)

pub returns-in-Some-clause-reads : goal.returns-in-Some-clause-reads
returns-in-Some-clause-reads g c =
    let root = (disks_known g.D.Disk.known c.args.disks.now).files.root.seen in
    witnessed g.D.Disk.tells root c.side_of.ensures.some.0 (λ (bytes : List ℕ). RootNames bytes c.side_of.result)
    (λ t. c.side_of.ensures.names root (sym (c.in_ok-front_synced_on.ensures.value t) ∙ c.in-Some.is))
    c.side_of.ensures.some.1

pub returns-in-Some-clause-names : goal.returns-in-Some-clause-names
returns-in-Some-clause-names g c t =
    let known = g.D.Disk.known in let old = (disks_known known c.args.disks.now).files.root
    in let new = (disks_known known c.front_synced_on.new.disks).files.root in
    let looked = c.in_ok-front_synced_on.ensures in
    root_names new c.side_of.result
    (subst (λ (bytes : List ℕ). RootNames bytes c.side_of.result) (sym (looked.seen t))
    (c.side_of.ensures.names old.seen (sym (looked.value t) ∙ c.in-Some.is)))
    (looked.durable t)

pub returns-in-Some-clause-side : goal.returns-in-Some-clause-side
returns-in-Some-clause-side g c = names_image c.side_of.ensures.some.0 c.side_of.result c.side_of.ensures.some.1

pub returns-in-Some-clause-looks : goal.returns-in-Some-clause-looks
returns-in-Some-clause-looks g c t =
    let known = g.D.Disk.known in let looked = c.in_ok-front_synced_on.ensures in
    looks Root (disks_known known c.args.disks.now) (disks_known known c.front_synced_on.new.disks) (looked.seen t)
    (looked.stays_settled t) (looked.others t) (looked.any_moment t)
