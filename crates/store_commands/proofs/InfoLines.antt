-- The lines of a store: itself, its log, and the positions that it keeps.
use Rattle.std.proofs.Common.{◌≡◌, List, ◌∷◌, ◌++◌, refl}
use Rattle.std.specs.Prelude.{map}
use Rattle.u1_base.specs.Places.{Place}
use Rattle.vector_rev.specs.Counts.{Uid}
use Rattle.conflicts.specs.State.{Text}
use Rattle.replica_core.specs.Commands.Effects.{Known, Line, Now, OfDatabase, OfReplica, Told}
use Rattle.command_lines.specs.Lines.{lines_text}

abbrev pub known_lines : List (Uid × Place) → List Line
known_lines known = map (λ kept. Known kept.0 kept.1) known

abbrev pub told_lines : List (Uid × Place) → List Line
told_lines told = map (λ kept. Told kept.0 kept.1) told

abbrev pub info_lines : Uid → Text → Place → List (Uid × Place) → List (Uid × Place) → List Line
info_lines uid name at known told = OfReplica uid ∷ OfDatabase name ∷ Now at ∷ known_lines known ++ told_lines told

pub same_info : (u v : Uid) (m n : Text) (at : Place) (known known2 told told2 : List (Uid × Place)) → u ≡ v → m ≡ n
    → known ≡ known2 → told ≡ told2
    → lines_text (info_lines u m at known told) ≡ lines_text (info_lines v n at known2 told2)
same_info u v m n at known known2 told told2 uid name k t = rw (uid, name, k, t) refl
