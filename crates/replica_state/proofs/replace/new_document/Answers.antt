-- The set that is made is that of the document after the acceptance.
use Rattle.std.proofs.Common.{◌≡◌, Option, option_copied, refl, subst}
use Rattle.conflicts.specs.Document.{document_after}
use Rattle.conflicts.specs.Kept.{Kept, document}
use Rattle.replica_state.specs.inner.Sets.{IsSetAfter}
use Rattle.replica_state.proofs.Putting.{ok_put, unchanged}
use Rattle.replica_state.proofs.replace.new_document.Goals as goal

pub returns-in-Some-clause-after : goal.returns-in-Some-clause-after
returns-in-Some-clause-after c =
    ok_put c.new_set.result c.reserve.new.self.pairs c.reserve.new.self.pairs c.args.doc.now c.args.accept c.in-Some.set
    (option_copied c.get-old.result) refl c.get-old.ensures
    (subst (λ (o : Option Kept). IsSetAfter (document (option_copied c.get-old.result)) c.args.accept o) c.in-Some.is
    c.in_ok-set.ensures) c.new_set.ensures.put

pub returns-in-None-clause-after : goal.returns-in-None-clause-after
returns-in-None-clause-after c = record {
  documents = λ d. unchanged c.reserve.new.self.pairs c.args.doc.now d c.args.accept
      (subst (λ (o : Option Kept). document_after (document o) c.args.accept ≡ document o) c.get-old.ensures
      (subst (λ (o : Option Kept). IsSetAfter (document (option_copied c.get-old.result)) c.args.accept o) c.in-None.is
      c.in_ok-set.ensures));
  indexes = λ names. refl;
}
