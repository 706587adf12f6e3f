-- The changes that were there, without those of the document, and one more.
use Rattle.translog.proofs.GrowingChanges.{changes_grow}
use Rattle.translog.proofs.laws.law_changes.Goals as goal

pub returns : goal.returns
returns c = changes_grow
