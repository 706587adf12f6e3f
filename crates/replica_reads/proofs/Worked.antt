-- The definitions at small cases, by computation.
use Rattle.std.proofs.Common.{◌≡◌, [], ◌∷◌, refl}
use Rattle.std.specs.Prelude.{codes, Some, None, Ok, Err}
use Rattle.index_tables.specs.Documents.{Documents}
use Rattle.index_tables.specs.Order.{Key}
use Rattle.query_range.specs.Answers.{is_between}
use Rattle.query_range.specs.Patterns.{part_of}
use Rattle.conflicts.specs.State.{Text}
use Rattle.replica_reads.specs.Answers.{answer_by, keys_by}
use Rattle.replica_reads.specs.Patterns.{pattern_in}
use Rattle.replica_reads.specs.declared.fault.QueryFault.TheVariants.{BadGlob, WrongWidth}

-- ---- patterns

bad_second : pattern_in (codes "*" ∷ codes "x" ∷ []) 2 ≡ Err (BadGlob 1)
bad_second = refl

too_few : pattern_in (codes "x" ∷ []) 2 ≡ Err WrongWidth
too_few = refl

good : pattern_in (codes "a" ∷ codes "b*" ∷ codes "*" ∷ []) 3
    ≡ Ok (part_of (codes "a") ∷ part_of (codes "b*") ∷ part_of (codes "*") ∷ [])
good = refl

-- ---- answers: d1 has two keys, d2 one, d3 none

abbrev key : Text → Key
key word = word ∷ []

abbrev three : Documents
three = (codes "d1", key (codes "z") ∷ key (codes "b") ∷ []) ∷ (codes "d2", key (codes "a") ∷ [])
    ∷ (codes "d3", []) ∷ []

by_least : answer_by (is_between None None) three ≡ codes "d2" ∷ codes "d1" ∷ []
by_least = refl

from_b : answer_by (is_between (Some (key (codes "b"))) None) three ≡ codes "d1" ∷ []
from_b = refl

nothing_between : answer_by (is_between (Some (key (codes "c"))) (Some (key (codes "a")))) three ≡ []
nothing_between = refl

three_keys : keys_by three ≡ key (codes "a") ∷ key (codes "b") ∷ key (codes "z") ∷ []
three_keys = refl
