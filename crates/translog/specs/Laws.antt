-- What holds of all logs, and what the tests of places say.
use Rattle.std.specs.Prelude.{◌≡◌, ◌↔◌, ℕ, ◌+◌, ◌≤◌, true, false, not, List, [], ◌∷◌, ◌++◌, length, filter}
use Rattle.u1_base.specs.Ids.{same_id}
use Rattle.u1_base.specs.Places.{Place}
use Rattle.translog.specs.declared.entry.Entry.{Entry}
use Rattle.translog.specs.declared.check.Check.{Check}
use Rattle.translog.specs.Entries.{change_at, changes_since}
use Rattle.translog.specs.Log.{IsEnd, FitsLog, end_of, fits_log}
use Rattle.translog.specs.Checks.{Checks, is_fits}
use Rattle.translog.specs.Source.{GoesBack, GoesOn, passes}

-- a place that fits still fits when the log has grown
abbrev pub FitsWhileGrowing : Type 0
FitsWhileGrowing = (es more : List Entry) (p : Place) → FitsLog es p → FitsLog (es ++ more) p

-- one more entry: the changes of its document go, and its own change comes last
abbrev pub ChangesGrow : Type 0
ChangesGrow =
    (es : List Entry) (e : Entry) (g : ℕ) → g ≤ length es → changes_since (es ++ e ∷ []) g
    ≡ filter (λ c. not (same_id e.doc c.doc)) (changes_since es g) ++ change_at e (length es + 1) ∷ []

-- each test of places says what its relation says
pub record TestsDecide : Type 0 where
  -- the end of a log is one place, and it fits the log
  pub end : (es : List Entry) (p : Place) → IsEnd es p ↔ (p ≡ end_of es)
  pub end_fits : (es : List Entry) → FitsLog es (end_of es)
  -- the log check
  pub fits : (es : List Entry) (p : Place) → FitsLog es p ↔ (fits_log es p ≡ true)
  pub answer : (es : List Entry) (p : Place) (answer : Check) → Checks es p answer → is_fits answer ≡ fits_log es p
  -- the source check
  pub on : (kept to : Place) → GoesOn kept to ↔ (passes kept to ≡ true)
  pub back : (kept to : Place) → GoesBack kept to ↔ (passes kept to ≡ false)
