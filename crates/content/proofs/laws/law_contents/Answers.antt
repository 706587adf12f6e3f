-- A content and its text.
use Rattle.content.proofs.CanonicalTexts.{canonical-injective}
use Rattle.content.proofs.Reading.{content_in-canonical, content_in-Reads, IsContent-content_in}
use Rattle.content.proofs.laws.law_contents.Goals as goal

pub returns : goal.returns
returns c = record {
  back = content_in-canonical;
  only = λ bytes t e. (IsContent-content_in bytes t e, (content_in-Reads bytes t).0 e);
  apart = canonical-injective;
}
