-- What the bytes of a body say that came so far: the lines that are whole, and how the body ends. Serving and syncing
-- speak of this, and not of bytes.
use Rattle.std.specs.Prelude.{◌≡◌, ◌⊎◌, ℕ, ◌+◌, Bool, true, false, List, [], length, Option, Some, None}
use Rattle.sync_stream.specs.Lines.{IsUnbroken}
use Rattle.sync_stream.specs.Stream.{Begins, IsFaultyAt, counted, end_fault, is_closed, is_long_rest}
use Rattle.sync_stream.specs.declared.line.HeadKind.{HeadKind}
use Rattle.sync_stream.specs.declared.line.Line.{Line}
use Rattle.sync_stream.specs.declared.line.Next.{Next}
use Rattle.sync_stream.specs.declared.fault.LineFault.{LineFault}

-- how a body ends: whole, at a faulty line, or cut within the line of this number
pub data Ending : Type 0 where
  Whole : Ending
  Faulty : LineFault → Ending
  Cut : ℕ → Ending

abbrev pub ending_of : Option LineFault → Ending
ending_of None = Whole
ending_of (Some fault) = Faulty fault

-- the rest has no whole line, and is not faulty already
abbrev pub IsQuiet : Next → List ℕ → Type 0
IsQuiet place rest =
    ((is_closed place ≡ true) × (rest ≡ []))
    ⊎ ((is_closed place ≡ false) × IsUnbroken rest × (is_long_rest rest ≡ false))

-- a body ends so after its good lines, with this rest of line n; `all` says whether all of it came
pub data EndsSo (kind : HeadKind) (n : ℕ) (place : Next) (rest : List ℕ) (all : Bool) (ending : Ending) : Type 0 where
  -- line n is faulty, however the body goes on
  at_fault : (fault : LineFault) → IsFaultyAt kind n place rest fault → ending ≡ Faulty fault
      → EndsSo kind n place rest all ending
  -- all of it came: what is left is the last line
  at_end : all ≡ true → IsQuiet place rest → ending ≡ ending_of (end_fault kind n place rest)
      → EndsSo kind n place rest all ending
  -- more was to come: it is cut within line n
  at_cut : all ≡ false → IsQuiet place rest → ending ≡ Cut n → EndsSo kind n place rest all ending

-- the bytes that came of a body say these lines, and it ends so
pub record SaysBody (kind : HeadKind) (bytes : List ℕ) (all : Bool) (said : List Line) (ending : Ending) : Type 0 where
  pub lines : List (List ℕ)
  pub place : Next
  pub rest : List ℕ
  pub begins : Begins kind bytes lines said place rest
  pub ends : EndsSo kind (counted (length lines + 1)) place rest all ending
