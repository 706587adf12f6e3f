-- Each piece is put behind those before it.
use Rattle.std.proofs.Common.{List, ℕ, arith}
use Rattle.std.proofs.lemmas.Result.{err_from_is_err_and}
use Rattle.std.specs.Borrow.{Bor}
use Rattle.command_lines.specs.declared.put.PrintFault.TheVariants.{Sink}
use Rattle.command_lines.proofs.Listing.{all_of, broken_at, none_of, one_more_of}
use Rattle.command_lines.proofs.put.put_all.Goals as goal

pub loop-piece-init : goal.loop-piece-init
loop-piece-init g c = none_of (λ (piece : Bor (List ℕ)). piece.now) c.args.pieces.now (g.K.Sink.known c.args.out.now)

pub loop-piece-preserved : goal.loop-piece-preserved
loop-piece-preserved g c =
    let k = g.K.Sink.known in
    one_more_of (λ (piece : Bor (List ℕ)). piece.now) c.args.pieces.now c.loop-piece.piece-index _ (k c.args.out.now)
    (k c.loop-piece.out) (k c.put.new.self)
    (omega (arith, c.loop-piece-test.true)) c.loop-piece.invariant
    (c.in_ok-put.ensures.ok, c.in_ok-put.ensures.cause.later)

pub returns-in_err-put : goal.returns-in_err-put
returns-in_err-put g c =
    let k = g.K.Sink.known in
    let p = err_from_is_err_and c.from_residual.result c.from_residual.ensures.1 in
    rw (p.1, p.2)
    (broken_at (λ (piece : Bor (List ℕ)). piece.now) c.args.pieces.now c.loop-piece.piece-index _ (k c.args.out.now)
    (k c.loop-piece.out) (k c.put.new.self)
    Sink (omega (arith, c.loop-piece-test.true)) c.loop-piece.invariant
    (c.in_err-put.ensures.err, c.in_err-put.ensures.cause.later, c.in_err-put.ensures.cause.failed))

pub returns : goal.returns
returns g c =
    let k = g.K.Sink.known in
    all_of (λ (piece : Bor (List ℕ)). piece.now) c.args.pieces.now c.loop-piece.piece-index (k c.args.out.now)
    (k c.loop-piece.out)
    (omega (arith, c.loop-piece-test.false)) c.loop-piece.invariant
