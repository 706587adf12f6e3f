-- The body that was written is read as the step.
use Rattle.std.proofs.Common.{◌≤◌, length, subst, sym, arith}
use Rattle.replica_state.specs.Steps.{step_of}
use Rattle.record_codec.specs.Laws.{AreBytes}
use Rattle.record_codec.proofs.Answered.{reads_back, says_step, body_some}
use Rattle.record_codec.proofs.encoding.encode.Goals as goal

pub returns-clause-says : goal.returns-clause-says
returns-clause-says c =
    let e = c.in_ok-encoded in
    says_step c.args.uids.now.uids (step_of c.args.step.now) e.encoded.bytes e.encoded.added
    c.as_slice-uids.ensures.numbered
    (subst AreBytes c.as_slice-bytes.ensures c.is_short.ensures.bytes) e.ensures.step e.ensures.body e.ensures.added
    (omega arith)

pub returns-clause-reads_back : goal.returns-clause-reads_back
returns-clause-reads_back c =
    let e = c.in_ok-encoded in
    reads_back c.args.uids.now.uids (step_of c.args.step.now) e.encoded.bytes e.encoded.added e.ensures.step
    e.ensures.body e.ensures.added (omega arith)

pub returns-clause-some : goal.returns-clause-some
returns-clause-some c =
    subst (λ s. 1 ≤ length s) (sym c.in_ok-encoded.ensures.body)
    (body_some c.args.uids.now.uids (step_of c.args.step.now))
