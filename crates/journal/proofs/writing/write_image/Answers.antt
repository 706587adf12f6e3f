-- Nothing was done yet.
use Rattle.disk_model.specs.Disk.{IsAny}
use Rattle.disk_model.proofs.Runs.{started}
use Rattle.journal.proofs.writing.write_image.Goals as goal

pub returns-in_default-clause-any_moment : goal.returns-in_default-clause-any_moment
returns-in_default-clause-any_moment g c t =
    started (g.D.Disk.known c.args.disk.now) IsAny (λ image i. tt)
