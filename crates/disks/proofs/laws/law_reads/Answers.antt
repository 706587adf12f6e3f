-- One of the three at a time.
use Rattle.std.proofs.Common.{ℕ, List}
use Rattle.disk_model.specs.Disk.{Unsynced, IsCrashImage}
use Rattle.disks.proofs.Runs.{reads_may_stay}
use Rattle.disks.proofs.laws.law_reads.Goals as goal

pub returns : goal.returns
returns g c t =
    let trio = c.args._disks.now.trio in let law = g.met.D.Disk.seen_may_stay in
    reads_may_stay g.D.Disk.known trio (law trio.root t) (law trio.left t) (law trio.right t)
