-- A document is live where its current member has a content.
use Rattle.std.proofs.Common.{◌∙◌, ap}
use Rattle.std.specs.Prelude.{is_some}
use Rattle.conflicts.specs.declared.member.Member.{Member}
use Rattle.replica_reads.proofs.Listing.{listed_live}
use Rattle.replica_reads.proofs.documents.is_listed.Goals as goal

pub returns-else-deleted : goal.returns-else-deleted
returns-else-deleted c =
    c.is_some.ensures ∙ ap (λ (m : Member). is_some m.content) c.current.ensures
    ∙ listed_live c.args.deleted c.args.set.now c.if-deleted.false
