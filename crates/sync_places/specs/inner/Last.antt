-- The place of the last entry of a document in a log, which counts from 1; 0 where there is none.
use Rattle.std.specs.Prelude.{ℕ, suc, cond, List, [], ◌∷◌}
use Rattle.u1_base.specs.Ids.{same_id}
use Rattle.translog.specs.declared.entry.Entry.{Entry}
use Rattle.conflicts.specs.State.{Text, State}

-- from what was found before, and with the first of the entries at place n
abbrev pub last_from : Text → ℕ → ℕ → List Entry → ℕ
last_from d found n [] = found
last_from d found n (e ∷ es) = last_from d (cond (same_id d e.doc) n found) (suc n) es

abbrev pub last_in : List Entry → Text → ℕ
last_in es d = last_from d 0 1 es

abbrev pub last_of : State → Text → ℕ
last_of s d = last_in s.log d
