-- Where nothing was read, the bytes are what a read gives.
use Rattle.std.proofs.Common.{refl}
use Rattle.journal.proofs.passing.read_image.Goals as goal

pub returns-in-Err-Disk-clause-reads : goal.returns-in-Err-Disk-clause-reads
returns-in-Err-Disk-clause-reads g c = ((g.D.Disk.known c.args.disk.now).seen, (λ t. refl), tt)

pub returns-in-Err-Memory-clause-reads : goal.returns-in-Err-Memory-clause-reads
returns-in-Err-Memory-clause-reads g c = ((g.D.Disk.known c.args.disk.now).seen, (λ t. refl), tt)
