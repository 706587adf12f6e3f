-- A stream: the lines of a text, what they say, and its first faulty line. Lines count from 1.
use Rattle.std.specs.Prelude.{◌≡◌, ◌≢◌, ◌⊎◌, ℕ, ◌+◌, ◌-◌, ◌^◌, ◌==◌, ◌&&◌, min, Bool, true, false, not, nat_lt}
use Rattle.std.specs.Prelude.{if◌then◌else◌, List, [], ◌∷◌, ◌++◌, length, slice_index, Option, Some, None}
use Rattle.u1_base.specs.declared.limits.TheConstants.{MOST_LINE_BYTES}
use Rattle.sync_stream.specs.Lines.{ended, IsUnbroken, Splits}
use Rattle.sync_stream.specs.Says.{says}
use Rattle.sync_stream.specs.declared.line.HeadKind.{HeadKind}
use Rattle.sync_stream.specs.declared.line.Line.{Line}
use Rattle.sync_stream.specs.declared.line.Next.{Next}
use Rattle.sync_stream.specs.declared.line.Next.TheVariants.{Opening, Heading, After, Closed}
use Rattle.sync_stream.specs.declared.line.Passed.{Passed}
use Rattle.sync_stream.specs.declared.fault.LineFault.{LineFault}
use Rattle.sync_stream.specs.declared.fault.LineFault.TheVariants.{At, TooLong}
use Rattle.sync_stream.specs.declared.fault.StreamFault.{StreamFault}
use Rattle.sync_stream.specs.declared.fault.StreamFault.TheVariants as fault

-- the most bytes of a line before its CR LF
abbrev pub max_line : ℕ
max_line = MOST_LINE_BYTES

-- a count of lines, which stands still at the end of its type
abbrev pub counted : ℕ → ℕ
counted n = min n (2 ^ 64 - 1)

-- the line `]` was passed
abbrev pub is_closed : Next → Bool
is_closed Opening = false
is_closed Heading = false
is_closed (After comma) = false
is_closed Closed = true

-- ---- good lines

-- what a line says, as a list of none or one
abbrev pub said_by : Option Line → List Line
said_by None = []
said_by (Some line) = line ∷ []

-- the whole line is good at its place, says this, and leads on
pub record IsGood (kind : HeadKind) (place : Next) (line : List ℕ) (passed : Passed) : Type 0 where
  pub fits : nat_lt max_line (length line) ≡ false
  pub says : says kind place line ≡ Some passed

-- from a place on these whole lines are good, say this, and lead to that place
abbrev pub Passes : HeadKind → Next → List (List ℕ) → List Line → Next → Type 0
Passes kind from [] said to = (said ≡ []) × (to ≡ from)
Passes kind from (line ∷ lines) said to =
    (passed : Passed) × (later : List Line) × IsGood kind from line passed × (said ≡ said_by passed.line ++ later)
    × Passes kind passed.place lines later to

-- the text begins with these good lines, which say this and lead to that place, and then has the rest
pub record Begins (kind : HeadKind) (text : List ℕ) (lines : List (List ℕ)) (said : List Line) (place : Next)
    (rest : List ℕ) : Type 0 where
  pub splits : Splits text lines rest
  pub passes : Passes kind Opening lines said place

-- ---- faulty lines

-- a fault as a reader answers it
abbrev pub answered : LineFault → StreamFault
answered (At n) = fault.At n
answered (TooLong n) = fault.TooLong n

abbrev pub fault_if : ℕ → Option Passed → Option LineFault
fault_if n None = Some (At n)
fault_if n (Some passed) = None

-- why the whole line with number n, which stands before the end of the stream, is faulty
abbrev pub fault_of : HeadKind → ℕ → Next → List ℕ → Option LineFault
fault_of kind n place line = if nat_lt max_line (length line) then Some (TooLong n) else fault_if n
    (says kind place line)

-- an unended rest is too long, whatever comes after it: a CR at its end may be that of its CR LF
abbrev pub ends_in_cr : List ℕ → Bool
ends_in_cr bytes = slice_index bytes (length bytes - 1) == 13

abbrev pub is_long_rest : List ℕ → Bool
is_long_rest bytes = nat_lt max_line (length bytes) && not (length bytes == max_line + 1 && ends_in_cr bytes)

-- bytes that begin with line n begin with a faulty one, however they go on
pub data IsFaultyAt (kind : HeadKind) (n : ℕ) (place : Next) (bytes : List ℕ) (fault : LineFault) : Type 0 where
  -- a whole line that is too long, or is not as it must be at its place
  whole_line : (line more : List ℕ) → is_closed place ≡ false → bytes ≡ ended line ++ more → IsUnbroken line
      → fault_of kind n place line ≡ Some fault → IsFaultyAt kind n place bytes fault
  -- a line that is too long and not yet ended
  long_rest : is_closed place ≡ false → IsUnbroken bytes → is_long_rest bytes ≡ true → fault ≡ TooLong n
      → IsFaultyAt kind n place bytes fault
  -- any byte after the line `]`
  after_end : is_closed place ≡ true → bytes ≢ [] → fault ≡ At n → IsFaultyAt kind n place bytes fault

-- the first faulty line of a text, however it goes on
pub record HasFault (kind : HeadKind) (text : List ℕ) (fault : LineFault) : Type 0 where
  pub lines : List (List ℕ)
  pub said : List Line
  pub place : Next
  pub rest : List ℕ
  pub begins : Begins kind text lines said place rest
  pub faulty : IsFaultyAt kind (counted (length lines + 1)) place rest fault

-- ---- whole bodies

-- what the rest does as the last line, where nothing comes after it: a good one that does not close the stream makes
-- the next line missing
abbrev pub closes : ℕ → Option Passed → Option LineFault
closes n None = Some (At n)
closes n (Some passed) = if is_closed passed.place then None else Some (At (counted (n + 1)))

abbrev pub is_empty : List ℕ → Bool
is_empty [] = true
is_empty (b ∷ bytes) = false

-- the fault of a body that ends with this rest of line n, or none where it is whole
abbrev pub end_fault : HeadKind → ℕ → Next → List ℕ → Option LineFault
end_fault kind n place rest =
    if is_closed place then (if is_empty rest then None else Some (At n)) else
    (if nat_lt max_line (length rest) then Some (TooLong n) else closes n (says kind place rest))

-- the whole lines of the body say this, and it is whole, or has this fault
pub record Ends (kind : HeadKind) (text : List ℕ) (said : List Line) (ending : Option LineFault) : Type 0 where
  pub lines : List (List ℕ)
  pub place : Next
  pub rest : List ℕ
  pub begins : Begins kind text lines said place rest
  pub last : (is_closed place ≡ true) ⊎ IsUnbroken rest
  pub fault : end_fault kind (counted (length lines + 1)) place rest ≡ ending
