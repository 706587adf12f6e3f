-- What is answered of words, and what a fault prints.
use Rattle.std.specs.Prelude.{◌≡◌, Result, Ok, Err}
use Rattle.cli_words.specs.declared.fault.WordsFault.{WordsFault}
use Rattle.cli_words.specs.declared.fault.WordsFault.TheVariants.{Words, Value, Memory}

-- what the words say is answered, unless memory runs out
abbrev pub Answers : {A : Type 0} → Result A WordsFault → Result A WordsFault → Type 0
Answers said (Ok x) = said ≡ Ok x
Answers said (Err Words) = said ≡ Err Words
Answers said (Err (Value place)) = said ≡ Err (Value place)
Answers said (Err Memory) = Unit {0}
