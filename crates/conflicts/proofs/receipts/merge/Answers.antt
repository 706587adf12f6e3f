-- The merge, or what it leaves to the last rows.
use Rattle.std.specs.Prelude.{Some, None}
use Rattle.std.proofs.Common.{◌∙◌, sym}
use Rattle.conflicts.proofs.Rows.{kept_merged, ok_then}
use Rattle.conflicts.proofs.receipts.merge.Goals as goal

pub returns-in-Some : goal.returns-in-Some
returns-in-Some c =
    kept_merged c.args.set.now c.args.incoming.now c.args.save c.args.own.now c.args.merging c.requires.merging
    c.requires.apart (Some c.in-Some.accept) (sym c.in-Some.is ∙ c.in_ok-accept.ensures)

pub returns-in-None : goal.returns-in-None
returns-in-None c =
    ok_then c.conflicted.result _ _ c.conflicted.ensures
    (kept_merged c.args.set.now c.args.incoming.now c.args.save c.args.own.now c.args.merging c.requires.merging
    c.requires.apart None (sym c.in-None.is ∙ c.in_ok-accept.ensures))
