use Rattle.std.proofs.Common.{◌≡◌, ◌≤◌, ◌-◌, length}
use Rattle.std.specs.Io.KnownBytes.{Consumes}
use Rattle.sync_link.specs.Links.{given_more}
use Rattle.rows_documents.proofs.callers.receive_all.Given as goal

-- what was received is what the ask was given since, and is gone from what was to come
abbrev pub invariant-loop-reply : goal.invariant-loop-reply
invariant-loop-reply g l = record {
  within : length l.reply ≤ l.many;
  given : g.L.Link.known l.link ≡ given_more l.reply (g.L.Link.known l.initial.link);
  next : Consumes (g.L.Link.known l.initial.link).coming (g.L.Link.known l.link).coming l.reply;
}

abbrev pub decreases-loop-reply : goal.decreases-loop-reply
decreases-loop-reply g l = l.many - length l.reply
