-- What the store held is what the bytes say.
use Rattle.std.proofs.Common.{◌∙◌, ap}
use Rattle.disks.specs.Disks.{disks_known}
use Rattle.disks.specs.declared.three.Disks.{Disks}
use Rattle.disks.specs.Joint.{seen_of}
use Rattle.examples.proofs.Reopened.{fails_only, reopens}
use Rattle.examples.proofs.reopening.reopen.Goals as goal

pub returns-clause-same : goal.returns-clause-same
returns-clause-same g c = λ tells.
    let known = g.D.Disk.known in
    let read = c.open_volume.ensures.reads in
    reopens known c.args.store (c.requires.keeps tells) read.0
    (read.1 tells ∙ ap (λ (ds : Disks g.row.D.Denot). seen_of (disks_known known ds).files) c.into_disks.ensures)
    c.open_volume.result read.2

pub returns-clause-fails : goal.returns-clause-fails
returns-clause-fails g c = λ tells.
    let known = g.D.Disk.known in
    let read = c.open_volume.ensures.reads in
    fails_only known c.args.store (c.requires.keeps tells) read.0
    (read.1 tells ∙ ap (λ (ds : Disks g.row.D.Denot). seen_of (disks_known known ds).files) c.into_disks.ensures)
    c.open_volume.result read.2
