-- The command is carried out, and its last line is printed.
use Rattle.outside.specs.Known.{outside_known}
use Rattle.store_commands.specs.Run.{Runs}
use Rattle.store_commands.proofs.Completing.{run_done}
use Rattle.store_commands.proofs.Printing.{answered_then}
use Rattle.store_commands.proofs.top.run_over.Goals as goal

pub returns : goal.returns
returns g c =
    let carried = c.carry_out-ended.ensures in
    let d = carried.decides in
    let before = outside_known g.S.Source.known g.K.Sink.known g.L.Link.known g.A.Acceptor.known
    g.A.Conn.Source.known g.A.Conn.Sink.known c.args.outside.now in
    let between = outside_known g.S.Source.known g.K.Sink.known g.L.Link.known g.A.Acceptor.known
    g.A.Conn.Source.known g.A.Conn.Sink.known c.carry_out-ended.new.outside in
    let out = g.K.Sink.known c.finish.new.out in
    let runs : Runs c.args.command.now c.args.seed
    (record { store = g.T.Store.known c.args.store; image = g.T.Store.image c.args.store; outside = before })
    (record {
      store = g.T.Store.known c.carry_out-ended.result.1;
      image = g.T.Store.image c.carry_out-ended.result.1;
      outside = record between { output = out };
    })
    c.finish.result = record {
      decided = carried.decided;
      a = carried.a;
      decides = record {
        o = d.o;
        is_command = d.is_command;
        is_seed = d.is_seed;
        exprs_read = d.exprs_read;
        compacted = d.compacted;
        told = d.told;
        opened = d.opened;
        read = d.read;
        answers = d.answers;
        does = d.does;
        takes = d.takes;
        is_read = d.is_read;
      };
      untouched = carried.untouched;
      peers = record { link = carried.peers.link; door = carried.peers.door };
      prints = answered_then carried.a before.output between.output out c.finish.result
          carried.decided c.carry_out-ended.result.0 carried.answers c.finish.ensures;
    } in
    record { runs = runs; complete = run_done _ _ _ _ _ runs }
