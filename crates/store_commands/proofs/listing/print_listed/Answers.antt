-- The document is got or not.
use Rattle.replica_state.specs.Held.{meaning}
use Rattle.store_commands.proofs.DocumentLines.{puts_listed, puts_unlisted}
use Rattle.store_commands.proofs.listing.print_listed.Goals as goal

pub returns-in-Some : goal.returns-in-Some
returns-in-Some g c =
    puts_listed (meaning c.args.state.now) c.args.deleted c.args.id.now (g.K.Sink.known c.args.out.now)
    (g.K.Sink.known c.print_document.new.out) _ c.in-Some.member.now c.is_in_conflict.result c.in-Some.ensures
    c.is_in_conflict.ensures c.print_document.ensures

pub returns-in-None : goal.returns-in-None
returns-in-None g c = puts_unlisted (meaning c.args.state.now) c.args.deleted c.args.id.now
    (g.K.Sink.known c.args.out.now) (g.K.Sink.known c.put_all.new.out) _ c.in-None.ensures c.put_all.ensures
