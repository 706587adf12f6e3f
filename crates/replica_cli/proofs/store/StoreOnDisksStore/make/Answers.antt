-- The store was made, or not.
use Rattle.std.specs.Prelude.{Err}
use Rattle.std.proofs.Common.{refl, sym, ◌∙◌, subst, arith}
use Rattle.disks.specs.Disks.{disks_known}
use Rattle.journal.specs.Image.{Head}
use Rattle.store_commands.specs.Store.{MadeAnew, Makes}
use Rattle.replica_cli.specs.Store.{store_seen}
use Rattle.disks.specs.declared.three.Disks.{Disks}
use Rattle.replica_cli.proofs.Looking.{finds_some, no_call}
use Rattle.replica_cli.proofs.Making.{fails_to_make, made_anew}
use Rattle.replica_cli.proofs.store.StoreOnDisksStore.make.Goals as goal

pub returns-in_default : goal.returns-in_default
returns-in_default g c =
    let d = disks_known g.D.Disk.known c.args.self.disks in
    (finds_some g.D.Disk.tells d d (λ t. no_call d) (omega arith), refl)

pub returns-in-Ok-init : goal.returns-in-Ok-init
returns-in-Ok-init g c =
    let known = g.D.Disk.known in let tells = g.D.Disk.tells in let made = c.in-Ok-init.ensures in
    let old = disks_known known c.args.self.disks in let new = disks_known known c.in-Ok-init.volume.disks in
    rw (c.new.ensures, c.into_disks.ensures)
    (subst (λ (head : Head). MadeAnew head.name head.uid head.limit (store_seen tells old) (store_seen tells new))
    c.in-Ok.ensures
    (made_anew tells known c.in-Ok.header old c.in-Ok-init.volume made.open made.reads.2.1
    (λ t. sym (made.reads.1 t) ∙ made.reads.2.0) made.any_moment made.cause.later))

pub returns-in-Err : goal.returns-in-Err
returns-in-Err g c =
    let known = g.D.Disk.known in let tells = g.D.Disk.tells in let failed = c.in-Err.ensures in
    let name = c.args.name.now in let uid = c.args.uid.now in let limit = c.args.limit in
    let old = disks_known known c.args.self.disks in let why = c.in-Err.fault in
    subst (λ (d : Disks _). Makes name uid limit (store_seen tells old) (store_seen tells (disks_known known d))
    (Err why)) (sym c.new-in-Err.ensures)
    (subst (λ (head : Head). Makes head.name head.uid head.limit (store_seen tells old)
    (store_seen tells (disks_known known c.in-Err.disks)) (Err why)) c.in-Ok.ensures
    (fails_to_make tells known c.in-Ok.header c.args.self.disks c.in-Err.disks failed.reads.0 c.in-Err.fault
    failed.reads.1 failed.reads.2 failed.any_moment failed.looks failed.left failed.untouched failed.cause))
