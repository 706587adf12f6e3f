-- The store is opened, or not.
use Rattle.store_commands.proofs.Opening.{opened_then, unopened}
use Rattle.store_commands.proofs.carrying.open_and_do.Goals as goal

pub returns-in-Ok : goal.returns-in-Ok
returns-in-Ok g c =
    opened_then c.args.command.now c.args.seed _ _ _ _ _ _ c.requires.built c.requires.opens _ _ _ _ _
    c.in-Ok.ensures.ok c.in-Ok.ensures.image c.do_in_opened.ensures

pub returns-in-Err : goal.returns-in-Err
returns-in-Err g c = rw c.from.ensures
    (unopened c.args.command.now c.args.seed _ _ _ _ _ c.requires.built c.requires.opens _ c.in-Err.ensures.err)
