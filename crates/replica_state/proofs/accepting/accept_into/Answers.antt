-- The set that is made is that of the document after the acceptance.
use Rattle.std.proofs.Common.{Option, option_copied, subst}
use Rattle.conflicts.specs.Kept.{Kept, document}
use Rattle.replica_state.specs.inner.Sets.{IsSetAfter}
use Rattle.replica_state.proofs.Putting.{accepted_none, accepted_set}
use Rattle.replica_state.proofs.accepting.accept_into.Goals as goal

pub returns-in-Some : goal.returns-in-Some
returns-in-Some c =
    accepted_set c.args.docs.now.pairs c.reserve.new.self.pairs c.put.new.self.pairs c.args.doc c.args.accept
    c.in-Some.set (option_copied c.get-old.result) c.reserve.ensures.pairs c.get-old.ensures
    (subst (λ (o : Option Kept). IsSetAfter (document (option_copied c.get-old.result)) c.args.accept o) c.in-Some.is
    c.in_ok-set.ensures) c.put.ensures.pairs

pub returns-in-None : goal.returns-in-None
returns-in-None c =
    accepted_none c.args.docs.now.pairs c.reserve.new.self.pairs c.args.doc c.args.accept
    (option_copied c.get-old.result) c.reserve.ensures.pairs c.get-old.ensures
    (subst (λ (o : Option Kept). IsSetAfter (document (option_copied c.get-old.result)) c.args.accept o) c.in-None.is
    c.in_ok-set.ensures)
