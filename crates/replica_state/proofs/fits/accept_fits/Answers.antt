-- The set is that of the document.
use Rattle.std.proofs.Common.{◌∙◌, ap, subst, Option}
use Rattle.std.specs.Prelude.{◌↔◌, IsTrue}
use Rattle.std.specs.FinMap.Entries.{find}
use Rattle.conflicts.specs.Document.{FitsDocument}
use Rattle.conflicts.specs.Kept.{Kept, document}
use Rattle.doc_table.specs.Listed.{Listed}
use Rattle.u1_base.specs.Ids.{id_cmp}
use Rattle.replica_state.proofs.fits.accept_fits.Goals as goal

pub returns : goal.returns
returns c =
    subst (λ (o : Option Kept). IsTrue c.fits.result ↔ FitsDocument (document o) c.args.accept.now)
    (c.get.ensures ∙ ap (λ (l : Listed Kept). find id_cmp c.args.doc.now l.pairs) c.docs.ensures) c.fits.ensures
