-- Pruning step by step is the filter of the whole list.
use Rattle.conflicts.proofs.Documents.{document_of-push, accepted_covered, stays_covered}
use Rattle.conflicts.proofs.WellFormed.{document_of-IsDocument, kept-IsDocument}
use Rattle.conflicts.proofs.Sets.{content_kept, member_kept}
use Rattle.conflicts.proofs.laws.law_members.Goals as goal

pub returns : goal.returns
returns c = record {
  step = document_of-push;
  covered = accepted_covered;
  stays = stays_covered;
  documents = document_of-IsDocument;
  kept = kept-IsDocument;
  member = member_kept;
  content = content_kept;
}
