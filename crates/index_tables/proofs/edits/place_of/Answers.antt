-- The search ended at the pair that was looked at, or behind all pairs.
use Rattle.index_tables.proofs.edits.place_of.Goals as goal
