-- Which command words are, and why others are none.
use Rattle.std.specs.Prelude.{ℕ, Bool, true, false, ◌&&◌, nat_le, List, [], ◌∷◌, length, Option, Some, None, Result, Ok}
use Rattle.std.specs.Prelude.{Err, if◌then◌else◌}
use Rattle.cli_words.specs.Faults.{Answers}
use Rattle.cli_words.specs.Word.{Word}
use Rattle.cli_words.specs.Parted.{Any, parted}
use Rattle.cli_words.specs.Given.{given_in}
use Rattle.cli_words.specs.Table.{Row, row_of, verb_in}
use Rattle.cli_words.specs.declared.command.Command.{Command}
use Rattle.cli_words.specs.declared.fault.WordsFault.{WordsFault}
use Rattle.cli_words.specs.declared.fault.WordsFault.TheVariants.{Words, Value}
use Rattle.cli_words.specs.declared.fault.Refused.{Refused}
use Rattle.cli_words.specs.declared.given.Given.{Given}
use Rattle.cli_words.specs.declared.given.Given.TheVariants.{Nothing, Deleted, Limit}
use Rattle.cli_words.specs.declared.parted.Parted.{Parted}
use Rattle.cli_words.specs.declared.synopsis.Synopsis.{Synopsis}
use Rattle.cli_words.specs.declared.verb.Verb.{Verb}

abbrev pub has_value : Option Word → Bool
has_value None = false
has_value (Some word) = true

-- `--limit` has its value
abbrev pub is_whole : Given → Bool
is_whole Nothing = true
is_whole Deleted = true
is_whole (Limit word) = has_value word

abbrev pub is_within : ℕ → Option ℕ → Bool
is_within n None = true
is_within n (Some most) = nat_le n most

-- the option has what it needs, and the number of operands is one that the command has
abbrev pub fits : Synopsis → Given → ℕ → Bool
fits synopsis given n = is_whole given && nat_le synopsis.least n && is_within n synopsis.most

-- a word that is refused is told by its place
abbrev pub told : {A : Type 0} → Result A Refused → Result A WordsFault
told (Ok x) = Ok x
told (Err refused) = Err (Value refused.place)

-- the operands and the option of a command, in the number that it has, are read by its row
abbrev pub Reads : Verb → List Word → Given → Result Command WordsFault → Type 0
Reads verb operands given result = Answers (told ((row_of verb).reads operands given)) result

-- the command of a row, of these operands and this option
abbrev pub command_given : Row → List Word → Option Given → Result Command WordsFault
command_given row operands None = Err Words
command_given row operands (Some given) =
    if fits row.synopsis given (length operands) then told (row.reads operands given) else Err Words

abbrev pub command_named : Option Verb → Parted → Result Command WordsFault
command_named None p = Err Words
command_named (Some verb) p = command_given (row_of verb) p.operands (given_in (row_of verb).synopsis.option p)

-- the command that words are: the first is the directory, the second names the command, and the rest are its operands
-- and options by the table
abbrev pub command_in : List (List ℕ) → Result Command WordsFault
command_in [] = Err Words
command_in (directory ∷ []) = Err Words
command_in (directory ∷ word ∷ words) = command_named (verb_in word) (parted Any 2 words)
