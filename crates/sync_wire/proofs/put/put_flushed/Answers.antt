-- All of the text was written before the flush failed.
use Rattle.std.proofs.Common.{Ok, Err, Result}
use Rattle.std.specs.Prelude.{OnErr}
use Rattle.sync_wire.proofs.Flushed.{kept_front}
use Rattle.sync_wire.proofs.put.put_flushed.Goals as goal

on_err : {A E : Type 0} (r : Result A E) {P : Type 0} → P → OnErr r P
on_err (Ok x) h = tt
on_err (Err e) h = h

pub returns-in-Ok-clause-front : goal.returns-in-Ok-clause-front
returns-in-Ok-clause-front g c =
    on_err c.flush.result (kept_front (g.C.Sink.known c.args.conn.now).taken (g.C.Sink.known c.put.new.self).taken
    (g.C.Sink.known c.flush.new.conn).taken c.args.text.now c.in-Ok.ensures.ok c.flush.ensures.same)
