-- The first runs were made: whatever the others do, together they are the list.
use Rattle.std.proofs.Common.{◌≡◌, ◌++◌, ◌≤◌, List, length, map}
use Rattle.std.specs.Prelude.{vec_capacity, vec_len}
use Rattle.std.specs.Vec.Iter.{into_iter_items}
use Rattle.command_lines.specs.declared.outcome.Outcome.{Outcome}
use Rattle.outside.specs.Known.{outside_known}
use Rattle.run_lists.specs.Lists.{Between, RunInTurn, asked, between}
use Rattle.run_lists.proofs.list.run_each.Given as goal

abbrev pub invariant-loop-request : goal.invariant-loop-request
invariant-loop-request g l = record {
  count : vec_len l.outcomes ≡ length l.yielded;
  room : length l.fn.requests.items ≤ vec_capacity l.outcomes;
  left : l.fn.requests.items ≡ l.yielded ++ into_iter_items l.request-iterator;
  so_far : (after : Between) (others : List Outcome)
      → RunInTurn g.D.Disk.tells (map (asked g.S.Source.known) (into_iter_items l.request-iterator))
      (between g.D.Disk.known l.disks (outside_known g.S.Source.known g.K.Sink.known g.L.Link.known g.A.Acceptor.known
      g.A.Conn.Source.known g.A.Conn.Sink.known l.outside)) after others
      → RunInTurn g.D.Disk.tells (map (asked g.S.Source.known) l.fn.requests.items)
      (between g.D.Disk.known l.fn.disks (outside_known g.S.Source.known g.K.Sink.known g.L.Link.known g.A.Acceptor.known
      g.A.Conn.Source.known g.A.Conn.Sink.known l.fn.outside)) after (l.outcomes.items ++ others);
}
