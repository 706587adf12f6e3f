-- The store is closed behind the command.
use Rattle.store_commands.proofs.Exits.{at_rest}
use Rattle.store_commands.proofs.Closing.{within_closed}
use Rattle.store_commands.proofs.carrying.do_in_opened.Goals as goal

pub returns : goal.returns
returns g c =
    let r = g.T.Opened.Replica in
    within_closed c.args.command.now c.args.seed _ _ _ _ _ _ _ _ _ _ _ _ _
    (at_rest r.known r.is_open r.crash g.met.T.Opened.Replica.settled c.args.opened c.requires.open)
    c.close.ensures.known (g.met.T.Store.told c.close.result) c.close.ensures.image c.do_in_open-ended.ensures
