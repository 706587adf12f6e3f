-- Worked words: what the definition makes of them.
use Rattle.std.proofs.Common.{◌≡◌, [], ◌∷◌, true, false, Some, None, Ok, Err, refl}
use Rattle.std.specs.Prelude.{codes}
use Rattle.cli_words.specs.Words.{command_in}
use Rattle.cli_words.specs.declared.command.Command.TheVariants as to
use Rattle.cli_words.specs.declared.command.Show.TheVariants as show
use Rattle.cli_words.specs.declared.fault.WordsFault.TheVariants.{Words, Value}

-- an option may stand before the operand and behind it
option_first : command_in (codes "DIR" ∷ codes "get" ∷ codes "--deleted" ∷ codes "d1" ∷ [])
    ≡ Ok (to.Show (show.Get (codes "d1") true))
option_first = refl

option_last : command_in (codes "DIR" ∷ codes "get" ∷ codes "d1" ∷ codes "--deleted" ∷ [])
    ≡ Ok (to.Show (show.Get (codes "d1") true))
option_last = refl

-- behind `--` it is an operand
option_as_id : command_in (codes "DIR" ∷ codes "get" ∷ codes "--" ∷ codes "--deleted" ∷ [])
    ≡ Ok (to.Show (show.Get (codes "--deleted") false))
option_as_id = refl

-- a limit in a word of its own and in that of the option
limit_apart : command_in (codes "DIR" ∷ codes "init" ∷ codes "db" ∷ codes "--limit" ∷ codes "1024" ∷ [])
    ≡ Ok (to.Init (codes "db") None (Some 1024))
limit_apart = refl

limit_within : command_in (codes "DIR" ∷ codes "init" ∷ codes "--limit=1024" ∷ codes "db" ∷ [])
    ≡ Ok (to.Init (codes "db") None (Some 1024))
limit_within = refl

-- the directory is word 0, and `--` has a place too
blank_in_id : command_in (codes "DIR" ∷ codes "get" ∷ codes "a b" ∷ []) ≡ Err (Value 2)
blank_in_id = refl

blank_behind_dashes : command_in (codes "DIR" ∷ codes "get" ∷ codes "--" ∷ codes "a b" ∷ []) ≡ Err (Value 3)
blank_behind_dashes = refl

-- of the option and the operand that are refused the one that stands first counts
limit_refused_first : command_in (codes "DIR" ∷ codes "init" ∷ codes "--limit" ∷ codes "5" ∷ codes "d/b" ∷ [])
    ≡ Err (Value 3)
limit_refused_first = refl

name_refused_first : command_in (codes "DIR" ∷ codes "init" ∷ codes "d/b" ∷ codes "--limit" ∷ codes "5" ∷ [])
    ≡ Err (Value 2)
name_refused_first = refl

-- a number has no sign and no leading zero
sign : command_in (codes "DIR" ∷ codes "changes" ∷ codes "+1" ∷ []) ≡ Err (Value 2)
sign = refl

leading_zero : command_in (codes "DIR" ∷ codes "changes" ∷ codes "01" ∷ []) ≡ Err (Value 2)
leading_zero = refl

-- words that are no command
no_words : command_in [] ≡ Err Words
no_words = refl

option_twice : command_in (codes "DIR" ∷ codes "get" ∷ codes "--deleted" ∷ codes "d1" ∷ codes "--deleted" ∷ [])
    ≡ Err Words
option_twice = refl

option_of_others : command_in (codes "DIR" ∷ codes "put" ∷ codes "d1" ∷ codes "--deleted" ∷ []) ≡ Err Words
option_of_others = refl

-- the form is tested before the values
operand_too_many : command_in (codes "DIR" ∷ codes "get" ∷ codes "a b" ∷ codes "d1" ∷ []) ≡ Err Words
operand_too_many = refl
