use Rattle.std.proofs.Common.{Err, subst, sym}
use Rattle.sync_stream.specs.HeldText.{Answers}
use Rattle.sync_stream.specs.inner.HeldText.{PassesOne}
use Rattle.sync_stream.proofs.Stands.{faulty_after}
use Rattle.sync_stream.proofs.reader.Reader.after_opening.Goals as goal

pub returns-in-Err-clause-answers : goal.returns-in-Err-clause-answers
returns-in-Err-clause-answers c =
    let old = c.args.self.now in
    let new = c.pass.new.self in
    subst (λ f. Answers old new (Err f)) (sym c.into.ensures)
    (faulty_after old new c.in-Err.fault (subst (λ r. PassesOne old new r) c.in-Err.is c.in_ok-fault.ensures.passes))
