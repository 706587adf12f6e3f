-- What the bytes are that were read, where it ends.
use Rattle.std.proofs.Common.{Ok, Err, sym, subst}
use Rattle.std.specs.Prelude.{IfOk}
use Rattle.sync_http.specs.Hearing.{HearsRequest}
use Rattle.sync_http.specs.declared.heads.Heard.TheVariants.{Head, NotYet}
use Rattle.sync_wire.specs.Opened.{IsOpened}
use Rattle.sync_wire.proofs.Opens.{faulty_ok, read_fails, whole_head}
use Rattle.sync_wire.proofs.head.read_head.Goals as goal

pub returns-in-Ok-Head-clause-opened : goal.returns-in-Ok-Head-clause-opened
returns-in-Ok-Head-clause-opened g c =
    whole_head (g.C.Source.known c.args.conn.now).left (g.C.Source.known c.loop-head.conn).left
    (g.C.Source.known c.loop-head.conn).left c.loop-head.bytes
    c.loop-head.invariant.read c.in-Ok-Head.head c.in-Ok-Head.length
    (subst (λ bytes. HearsRequest bytes (Ok (Head c.in-Ok-Head.head c.in-Ok-Head.length))) c.as_slice.ensures
    (subst (λ heard. HearsRequest c.as_slice.result.now (Ok heard)) c.in-Ok-Head.field-0-is c.in-Ok-Head.ensures.hears))

pub returns-in-Err-read_piece-clause-lost : goal.returns-in-Err-read_piece-clause-lost
returns-in-Err-read_piece-clause-lost g c =
    read_fails (g.C.Source.known c.args.conn.now).left (g.C.Source.known c.loop-head.conn).left
    (g.C.Source.known c.read_piece.new.conn).left c.loop-head.bytes c.loop-head.invariant.read c.in-Err-read_piece.fault
    c.read_piece.result c.in-Err-read_piece.is
    (subst (λ bytes. HearsRequest bytes (Ok NotYet)) c.as_slice.ensures
    (subst (λ heard. HearsRequest c.as_slice.result.now (Ok heard)) c.in-Ok-NotYet.field-0-is
    c.in-Ok-NotYet.ensures.hears)) c.read_piece.ensures.kept c.in-Err-read_piece.ensures.lost

pub returns-in-Err-clause-opened : goal.returns-in-Err-clause-opened
returns-in-Err-clause-opened g c =
    subst (λ r. IfOk r (IsOpened (g.C.Source.known c.args.conn.now).left (g.C.Source.known c.loop-head.conn).left))
    (sym c.opening_at.ensures)
    (faulty_ok (g.C.Source.known c.args.conn.now).left (g.C.Source.known c.loop-head.conn).left
    (g.C.Source.known c.loop-head.conn).left c.loop-head.bytes c.loop-head.invariant.read c.in-Err.fault
    (subst (λ bytes. HearsRequest bytes (Err c.in-Err.fault)) c.as_slice.ensures c.in-Err.ensures.hears))
