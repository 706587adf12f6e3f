-- Beside specs/Seen: words of private contracts and of proofs.
use Rattle.std.specs.Prelude.{ℕ, List, [], ◌∷◌}
use Rattle.conflicts.specs.State.{Text}
use Rattle.conflicts.specs.declared.receipts.Outcome4.{Outcome4}
use Rattle.conflicts.specs.declared.receipts.Outcome4.TheVariants.{Inserted, Superseded, Converged, Conflicted}
use Rattle.sync_stream.specs.Serving.{Held}

-- what the source has of a document after this outcome, where the log has this generation
abbrev pub held_at : Outcome4 → Text → ℕ → List Held
held_at Inserted doc generation = record { doc = doc; generation = generation } ∷ []
held_at Converged doc generation = record { doc = doc; generation = generation } ∷ []
held_at Superseded doc generation = []
held_at Conflicted doc generation = []
