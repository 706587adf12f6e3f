-- Each table's answers fit and are made of what is there.
use Rattle.conflicts.proofs.Makings.{edited_makes, deleted_makes, resolved_makes, decides_takes}
use Rattle.conflicts.proofs.laws.law_makings.Goals as goal

pub returns : goal.returns
returns c = record {
  edits = edited_makes;
  deletions = deleted_makes;
  resolutions = resolved_makes;
  receipts =
      decides_takes;
}
