-- The three answers of the check of a position.
use Rattle.std.specs.Prelude.{◌≡◌, ◌≢◌, ◌<◌, ◌≤◌, Bool, true, false, List, length, Some}
use Rattle.u1_base.specs.Places.{Place}
use Rattle.translog.specs.declared.entry.Entry.{Entry}
use Rattle.translog.specs.Entries.{trans_at}
use Rattle.translog.specs.Log.{FitsLog}
use Rattle.translog.specs.declared.check.Check.{Check}
use Rattle.translog.specs.declared.check.Check.TheVariants.{Fits, NotReached, OtherId}

-- what each answer says of a log and a position
abbrev pub Checks : List Entry → Place → Check → Type 0
Checks es p Fits = FitsLog es p
Checks es p (NotReached n) = (n ≡ length es) × (n < p.generation)
Checks es p (OtherId found) =
    (1 ≤ p.generation) × (p.generation ≤ length es)
    × (trans_at es p.generation ≡ Some found.now) × (p.trans ≢ Some found.now)

-- whether the answer is that the position fits
abbrev pub is_fits : Check → Bool
is_fits Fits = true
is_fits (NotReached n) = false
is_fits (OtherId found) = false
