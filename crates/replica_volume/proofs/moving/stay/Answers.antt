-- The journal is that of the image.
use Rattle.replica_volume.proofs.moving.stay.Goals as goal

pub returns : goal.returns
returns c = λ i. record { side = c.args.side; journal = c.journal-journal.ensures i; uids = c.args.uids }
