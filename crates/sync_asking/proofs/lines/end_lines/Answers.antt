use Rattle.std.proofs.Common.{subst, sym}
use Rattle.sync_asking.proofs.Ends.{at_end}
use Rattle.sync_asking.specs.Lines.{IsFaulty}
use Rattle.sync_asking.proofs.lines.end_lines.Goals as goal

pub returns-in-Err-clause-err : goal.returns-in-Err-clause-err
returns-in-Err-clause-err c =
    let k = at_end c.args.reader.now c.finish.new.self c.in-Err.fault c.requires.closed c.requires.no_fault
    c.in-Err.ensures.finishes in
    (k.0, subst (λ f. IsFaulty c.finish.new.self f) (sym c.stream_fault.ensures.ends) k.1)
