-- compact wants the store, and any other command the replica alone.
use Rattle.std.proofs.Common.{Ok, [], refl}
use Rattle.cli_words.specs.declared.command.Command.TheVariants as command
use Rattle.replica_state.specs.Held.{lists_of}
use Rattle.store_commands.proofs.Taken.{compacting, without_input}
use Rattle.store_commands.proofs.carrying.do_in_open.Goals as goal

pub returns-in-Compact : goal.returns-in-Compact
returns-in-Compact g c =
    let r = g.T.Opened.Replica in
    rw c.in-Compact.is
    (compacting r.known r.is_open r.crash g.T.Store.image_in c.args.seed (lists_of (r.known c.args.opened.now).state) _ _
    _ _ _ c.compact.ensures)

pub returns-in-Show : goal.returns-in-Show
returns-in-Show g c =
    let r = g.T.Opened.Replica in
    rw c.in-Show.is
    (without_input r.known r.is_open r.crash g.met.T.Opened.Replica.settled (command.Show c.in-Show.show) c.args.seed
    (Ok []) refl (λ h. cc) (lists_of (r.known c.args.opened.now).state) _ _
    _ _ _ _ _ _ refl refl c.show_in.ensures)
