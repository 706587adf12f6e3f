-- The current member is got where the document is listed.
use Rattle.std.proofs.Common.{◌∙◌, ap, sym, Some}
use Rattle.conflicts.specs.declared.member.Member.{Member}
use Rattle.replica_reads.proofs.Listing.{got_listed}
use Rattle.replica_reads.proofs.documents.listed_member.Goals as goal

pub returns : goal.returns
returns c =
    ap (λ (m : Member). Some m) c.current.ensures
    ∙ sym (got_listed c.args.deleted c.args.set.now (sym c.is_listed.ensures ∙ c.if-not-is_listed.false))
