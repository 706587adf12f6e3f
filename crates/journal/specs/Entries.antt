-- Entries that are ready to be added together, behind one gate.
use Rattle.std.specs.Prelude.{◌≡◌, ℕ, ◌+◌, List, [], ◌∷◌, ◌++◌, length}
use Rattle.disk_model.specs.Device.{Device, File, file_of}
use Rattle.disk_model.specs.Moments.{LeavesOnly}
use Rattle.journal.specs.Image.{Head, AreBodies, ReadsWithOrWithoutAll, body_field, entries}
use Rattle.journal.specs.Journal.{Extent, Holds}
use Rattle.journal.specs.declared.layout.TheConstants.{CLOSED_GATE}

-- What stands behind the gate of the first entry: its body, then the further entries behind open gates, and a closed
-- gate. Of no entries there is nothing.
abbrev pub behind_gate : List (List ℕ) → List ℕ
behind_gate [] = []
behind_gate (body ∷ bodies) = body_field body ++ (entries bodies ++ CLOSED_GATE ∷ [])

-- these bytes are that of these bodies
pub record AreSpelled (bodies : List (List ℕ)) (bytes : List ℕ) : Type 0 where
  pub fit : AreBodies bodies
  pub is : bytes ≡ behind_gate bodies

-- the journal of the image with these bytes behind its gate
abbrev pub extended : Extent → List ℕ → Extent
extended journal bytes = record { length = journal.length + length bytes; limit = journal.limit }

-- the image that was held with the journal before is held with the one after it, with all bodies more that are spelled
abbrev pub HoldsAllMore : List ℕ → Extent → Extent → File → File → Type 0
HoldsAllMore spelled old new before after =
    (more : List (List ℕ)) → AreSpelled more spelled
    → (format : ℕ) (head : Head) (bodies : List (List ℕ)) → Holds old format head bodies before
    → Holds new format head (bodies ++ more) after

-- a crash at any moment leaves the image that was held, or that with all bodies more that are spelled
abbrev pub LeavesAllOrNone : List ℕ → Extent → Device → Device → Type 0
LeavesAllOrNone spelled journal old new =
    (more : List (List ℕ)) → AreSpelled more spelled
    → (format : ℕ) (head : Head) (bodies : List (List ℕ)) → Holds journal format head bodies (file_of old)
    → LeavesOnly old new (ReadsWithOrWithoutAll more format head bodies)
