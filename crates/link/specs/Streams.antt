-- What a contract knows of an input and of an output at a moment, and what reading takes from an input.
use Rattle.std.specs.Prelude.{◌≡◌, ℕ, ◌≤◌, Bool, List, ◌++◌, Option, length, take, Result, Ok, Err}
use Rattle.std.specs.Option.{option_map}
use Rattle.std.specs.Io.KnownBytes.{Appends, Consumes}
use Rattle.u1_base.specs.Causes.{Tells}
use Rattle.link.specs.declared.input.InputFault.{InputFault}
use Rattle.link.specs.declared.input.InputFault.TheVariants.{Source, Memory}

-- of an input: the bytes that are left, where told, and how many reads failed
pub record Input : Type 0 where
  pub left : Option (List ℕ)
  pub faults : ℕ

-- of an output: the bytes that it took, where told; whether some of them may still be held back; and how many calls
-- failed
pub record Output : Type 0 where
  pub taken : Option (List ℕ)
  pub held : Bool
  pub faults : ℕ

-- the first is a front of the second
abbrev pub IsFront : List ℕ → List ℕ → Type 0
IsFront front whole = (rest : List ℕ) × (whole ≡ front ++ rest)

-- the output took a front of the text
abbrev pub AppendsFront : Option (List ℕ) → Option (List ℕ) → List ℕ → Type 0
AppendsFront before after text = (k : ℕ) × Appends before after (take k text)

-- these are the bytes that the input had left, up to so many
abbrev pub Gives : Option (List ℕ) → ℕ → List ℕ → Type 0
Gives left most bytes = Tells (option_map (λ rest. take most rest) left) bytes

-- up to so many bytes the input gives `given`; of these the front `read` was read, and just that is gone from the input
pub record Takes (most : ℕ) (given read : List ℕ) (before after : Input) : Type 0 where
  pub told : Gives before.left most given
  pub within : length given ≤ most
  pub front : IsFront read given
  pub gone : Consumes before.left after.left read
  pub later : before.faults ≤ after.faults

-- reading an input to its end, or up to so many bytes: at Ok all that it gives was read, and these are the bytes; at a
-- failure a front of that
abbrev pub Reads : ℕ → Input → Input → Result (List ℕ) InputFault → Type 0
Reads most before after (Ok bytes) = Takes most bytes bytes before after
Reads most before after (Err fault) = (given : List ℕ) × (read : List ℕ) × Takes most given read before after

-- the count of faults stands, unless the answer is that a read failed
abbrev pub CountStands : {T : Type 0} → ℕ → ℕ → Result T InputFault → Type 0
CountStands before now (Err Source) = Unit {0}
CountStands before now (Err Memory) = now ≡ before
CountStands before now (Ok read) = now ≡ before
