use Rattle.compaction.proofs.Noting.{rev_noted}
use Rattle.compaction.proofs.noted.note_rev.Goals as goal

pub returns : goal.returns
returns c =
    rev_noted _ _ _ _ _ _ _ _ _ _ _ c.in_ok-doc.ensures c.in_ok-rev.ensures c.take.ensures.value c.or_none-revs.ensures
    c.in_ok-push.ensures.ok c.take.ensures.pairs c.reserve.ensures.pairs c.put.ensures.pairs
