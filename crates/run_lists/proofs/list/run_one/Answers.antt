-- The run reads its own input, and leaves all else that stands outside to the next one.
use Rattle.std.proofs.Common.{List, ℕ, subst}
use Rattle.outside.specs.Known.{outside_known}
use Rattle.replica_cli.specs.Run.{Runs, around}
use Rattle.run_lists.specs.Lists.{between, with_input}
use Rattle.run_lists.proofs.list.run_one.Goals as goal

pub returns : goal.returns
returns g c =
    let known = outside_known g.S.Source.known g.K.Sink.known g.L.Link.known g.A.Acceptor.known
    g.A.Conn.Source.known g.A.Conn.Sink.known in
    let before = between g.D.Disk.known c.args.disks (known c.args.outside.now) in
    record {
      read = g.S.Source.known c.run.new.outside.input;
      runs = subst (λ (words : List (List ℕ)). Runs g.D.Disk.tells words c.args.request.seed
          (with_input before (g.S.Source.known c.args.request.input))
          (around g.D.Disk.known c.run.result.1 (known c.run.new.outside)) c.run.result.0)
          c.as_slice.ensures c.run.ensures;
    }
