-- What the walk finds decides.
use Rattle.std.proofs.Common.{◌∙◌, subst}
use Rattle.conflicts.specs.inner.Walk.{WalksTo}
use Rattle.conflicts.proofs.Rows.{kept_superseded, kept_stored}
use Rattle.conflicts.proofs.receipts.receive_apart.Goals as goal

pub returns-in-Newer : goal.returns-in-Newer
returns-in-Newer c =
    c.unchanged.ensures
    ∙ kept_superseded c.args.set.now c.args.incoming.now c.args.save c.args.own.now c.requires.not_newer
    c.requires.not_older
    (subst (WalksTo c.args.set.now c.args.incoming.now c.args.own.now c.look_at_others.new.merging) c.in-Newer.is
    c.in_ok-look_at_others.ensures)

pub returns-in-Same : goal.returns-in-Same
returns-in-Same c =
    kept_stored c.conflicted.result c.args.set.now c.args.incoming.now c.args.save c.args.own.now c.requires.not_newer
    c.requires.not_older
    (subst (WalksTo c.args.set.now c.args.incoming.now c.args.own.now c.look_at_others.new.merging) c.in-Same.is
    c.in_ok-look_at_others.ensures)
    c.conflicted.ensures

pub merge-requires-clause-merging : goal.merge-requires-clause-merging
merge-requires-clause-merging c =
    subst (WalksTo c.args.set.now c.args.incoming.now c.args.own.now c.look_at_others.new.merging) c.in-Neither.is
    c.in_ok-look_at_others.ensures
