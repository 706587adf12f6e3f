-- One step after another keeps the facts of each document's lineage, and these say the rest.
use Rattle.lineage.proofs.Descended as descended
use Rattle.lineage.proofs.laws.law_lineage.Goals as goal

pub returns : goal.returns
returns c = record {
  begins = descended.begins;
  grows = descended.grows;
  ancestry = descended.ancestry;
  cover = descended.cover;
}
