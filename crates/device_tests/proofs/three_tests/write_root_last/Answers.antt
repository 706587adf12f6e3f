-- While an image is written the root is empty, and while the root is written both images are there.
use Rattle.disks.specs.Disks.{disks_known}
use Rattle.disks.proofs.RootLast.{begun, image_left, image_right, left_fails, right_fails, root_written}
use Rattle.disks.proofs.RootLast.{root_whole}
use Rattle.device_tests.proofs.three_tests.write_root_last.Goals as goal

pub returns-in_err-write_synced_on-clause-any_moment : goal.returns-in_err-write_synced_on-clause-any_moment
returns-in_err-write_synced_on-clause-any_moment g c t =
    let known = g.D.Disk.known in let old = disks_known known c.args.disks.now in let image = c.args.image.now in
    left_fails image old old (disks_known known c.write_synced_on.new.disks) (begun image old (c.requires t))
    (c.in_err-write_synced_on.ensures.any_moment t)

pub returns-in_err-write_synced_on-2-clause-any_moment : goal.returns-in_err-write_synced_on-2-clause-any_moment
returns-in_err-write_synced_on-2-clause-any_moment g c t =
    let known = g.D.Disk.known in let old = disks_known known c.args.disks.now in let image = c.args.image.now in
    let mid = disks_known known c.write_synced_on.new.disks in
    let first = c.in_ok-write_synced_on.ensures in
    right_fails image old mid (disks_known known c.write_synced_on-2.new.disks)
    (image_left image old old mid (begun image old (c.requires t)) (first.written t) (first.durable t) (first.others t)
    (first.any_moment t))
    (c.in_err-write_synced_on-2.ensures.any_moment t)

pub returns-clause-any_moment : goal.returns-clause-any_moment
returns-clause-any_moment g c t =
    let known = g.D.Disk.known in let old = disks_known known c.args.disks.now in let image = c.args.image.now in
    let mid = disks_known known c.write_synced_on.new.disks
    in let next = disks_known known c.write_synced_on-2.new.disks in
    let first = c.in_ok-write_synced_on.ensures in let second = c.in_ok-write_synced_on-2.ensures in
    root_written image old next (disks_known known c.write_synced_on-3.new.disks)
    (image_right image old mid next
    (image_left image old old mid (begun image old (c.requires t)) (first.written t) (first.durable t) (first.others t)
    (first.any_moment t))
    (second.written t) (second.durable t) (second.others t) (second.any_moment t))
    (c.write_synced_on-3.ensures.any_moment t)

pub returns-clause-ok : goal.returns-clause-ok
returns-clause-ok g c t =
    let known = g.D.Disk.known in let old = disks_known known c.args.disks.now in let image = c.args.image.now in
    let mid = disks_known known c.write_synced_on.new.disks
    in let next = disks_known known c.write_synced_on-2.new.disks in
    let first = c.in_ok-write_synced_on.ensures in let second = c.in_ok-write_synced_on-2.ensures in
    root_whole image old next (disks_known known c.write_synced_on-3.new.disks) c.write_synced_on-3.result
    (image_right image old mid next
    (image_left image old old mid (begun image old (c.requires t)) (first.written t) (first.durable t) (first.others t)
    (first.any_moment t))
    (second.written t) (second.durable t) (second.others t) (second.any_moment t))
    (c.write_synced_on-3.ensures.written t) (c.write_synced_on-3.ensures.durable t)
    (c.write_synced_on-3.ensures.others t)
