-- Just the document changes.
use Rattle.std.proofs.Common.{List, ◌∙◌, ap, sym}
use Rattle.std.specs.FinMap.Entries.{find}
use Rattle.u1_base.specs.Ids.{id_cmp, same_id}
use Rattle.conflicts.specs.Kept.{document}
use Rattle.replica_state.specs.Held.{Heading, chosen, named}
use Rattle.replica_state.proofs.Replaying.{no_headings}
use Rattle.replica_state.proofs.WaitingAccepts.{accepts_one}
use Rattle.replica_state.proofs.state.State.accept_alone.Goals as goal

pub accept_alone-requires : goal.accept_alone-requires
accept_alone-requires c = rw (← c.self.view_is) at (no_headings c.args.self.now c.requires)

pub returns-clause-accepted : goal.returns-clause-accepted
returns-clause-accepted c =
    let doc = c.args.doc in
    let accept = c.args.accept in
    rw (← c.self.view_is) (λ i. record {
      name = c.self.inside.name;
      uid = c.self.inside.uid;
      document = λ d. (c.in_ok-accept_alone.ensures.docs d
          ∙ accepts_one (same_id d doc) accept (document (find id_cmp d c.self.inside.collection.docs.pairs))) i;
      log = c.self.inside.log.entries;
      position = λ t u. find id_cmp u (chosen t c.self.inside.known.pairs c.self.inside.told.pairs);
      index = λ n. ap (λ (xs : List Heading). find id_cmp n (named xs))
          (c.accept_alone.ensures.indexes ∙ sym (rw (← c.self.view_is) at (no_headings c.args.self.now c.requires))) i;
    })
