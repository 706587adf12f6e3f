use Rattle.content.proofs.CanonicalTexts.{length-canonical-read}
use Rattle.content.proofs.Reading.{content_in-Reads}
use Rattle.content.proofs.contents.Content.read_with.Goals as goal

pub returns-clause-reads : goal.returns-clause-reads
returns-clause-reads c =
    (content_in-Reads c.args.bytes.now c.in_ok-content.content).1 c.in_ok-content.ensures.reads

pub returns-clause-shorter : goal.returns-clause-shorter
returns-clause-shorter c =
    length-canonical-read c.args.bytes.now c.in_ok-content.content c.in_ok-content.ensures.reads.1
