-- What was read is gone, and nothing else.
use Rattle.std.proofs.Common.{◌≤◌, ◌++◌, length, length-append, arith, inl, inr}
use Rattle.std.proofs.KnownBytes.{Consumes-trans}
use Rattle.std.proofs.lemmas.Result.{err_from_is_err_and}
use Rattle.link.proofs.Taking.{next_gone, next_length, took_all, took_front}
use Rattle.link.proofs.input.read_at_most.Goals as goal
use Rattle.link.proofs.input.read_at_most.Goals.{else-loop-bytes-test}
use Rattle.link.proofs.input.read_at_most.Goals.{then-loop-bytes-test+in_ok-read_piece+then-branch-eq0}

pub returns-in_err-read_piece-clause-reads : goal.returns-in_err-read_piece-clause-reads
returns-in_err-read_piece-clause-reads g c =
    let known = g.S.Source.known in
    let before = c.loop-bytes.invariant in
    let lost = c.in_err-read_piece.ensures.lost in
    let fits : length (c.loop-bytes.bytes ++ lost.0) ≤ c.args.most =
    omega (
      arith,
      length-append c.loop-bytes.bytes lost.0,
      lost.1,
      c.min-room.ensures,
      c.len-in-loop-bytes.ensures,
      before.within,
    ) in
    let later : (known c.args.source.now).faults ≤ (known c.read_piece.new.source).faults =
    omega (arith, before.faults, c.in_err-read_piece.ensures.cause.later) in
    let fault = err_from_is_err_and c.from_residual.result c.from_residual.ensures.1 in
    rw fault.1 (took_front c.args.most (known c.args.source.now) (known c.read_piece.new.source)
    (c.loop-bytes.bytes ++ lost.0) fits
    (Consumes-trans _ (known c.loop-bytes.source).left _ c.loop-bytes.bytes lost.0 before.consumed lost.2) later)

pub returns-clause-reads : goal.returns-clause-reads
returns-clause-reads g c =
    let known = g.S.Source.known in
    let before = c.loop-bytes.invariant in
    elim c.loop-bytes-test.branch [
      | else-loop-bytes-test w ↦ rw (w.bytes-is, w.source-is)
          (took_all c.args.most (known c.args.source.now) (known c.loop-bytes.source) c.loop-bytes.bytes
          before.within before.consumed (omega (arith, before.faults))
          (inl (omega (arith, c.len.ensures, w.loop-bytes-test.false))))
      | then-loop-bytes-test+in_ok-read_piece+then-branch-eq0 w ↦
          let next = w.in_ok-read_piece.ensures.added in
          rw (w.bytes-is, w.source-is)
          (took_all c.args.most (known c.args.source.now) (known w.read_piece.new.source) w.read_piece.new.bytes
          (omega (arith, next_length next.1, next.0, w.min-room.ensures, w.len-in-loop-bytes.ensures, before.within))
          (next_gone _ (known c.loop-bytes.source).left _ c.loop-bytes.bytes _ _ before.consumed next.1)
          (omega (arith, before.faults, w.in_ok-read_piece.ensures.cause.later))
          (inr (next.1.ended w.if-branch-eq0.true)))
    ]
