-- The words are a command, or not.
use Rattle.std.specs.Prelude.{Ok}
use Rattle.std.proofs.Common.{refl}
use Rattle.outside.specs.Known.{outside_known}
use Rattle.replica_cli.specs.Run.{around}
use Rattle.replica_cli.proofs.Words.{as_read, turned_away}
use Rattle.replica_cli.proofs.top.run.Goals as goal

pub returns-in-Ok : goal.returns-in-Ok
returns-in-Ok g c =
    as_read g.D.Disk.tells c.args.words.now c.args.seed _ _ c.run_command.result.0 (Ok c.in-Ok.command) c.in-Ok.ensures
    c.run_command.ensures

pub returns-in-Err : goal.returns-in-Err
returns-in-Err g c =
    let before = outside_known g.S.Source.known g.K.Sink.known g.L.Link.known g.A.Acceptor.known
    g.A.Conn.Source.known g.A.Conn.Sink.known c.args.outside.now in
    turned_away g.D.Disk.tells c.args.words.now c.args.seed
    (around g.D.Disk.known c.args.disks before)
    (around g.D.Disk.known c.args.disks (record before { output = g.K.Sink.known c.finish.new.out }))
    c.finish.result c.in-Err.fault c.in-Err.ensures
    (record {
      disks = refl;
      input = refl;
      peers = record { link = refl; door = refl };
      prints = rw c.words_end.ensures at c.finish.ensures;
    })
