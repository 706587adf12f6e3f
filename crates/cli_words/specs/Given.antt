-- The option that stands among the words.
use Rattle.std.specs.Prelude.{◌==◌, Bool, true, false, List, [], ◌∷◌, codes, Option, Some, None, slice_get}
use Rattle.std.specs.Prelude.{if◌then◌else◌}
use Rattle.std.specs.List.{before_first, after_first}
use Rattle.std.specs.Str.{bytes_eq}
use Rattle.cli_words.specs.Word.{Word}
use Rattle.cli_words.specs.declared.parted.Parted.{Parted}
use Rattle.cli_words.specs.declared.synopsis.Allowed.{Allowed}
use Rattle.cli_words.specs.declared.synopsis.Allowed.TheVariants as allowed
use Rattle.cli_words.specs.declared.given.Given.{Given}
use Rattle.cli_words.specs.declared.given.Given.TheVariants.{Nothing, Deleted, Limit}

-- `--limit` with its value: the word after it, or what stands after the first `=`, which is 61
abbrev pub limit_given : Word → List Word → Option Given
limit_given flag values =
    if bytes_eq flag.1 (codes "--limit") then Some (Limit (slice_get values 0))
    else (if bytes_eq (before_first (λ b. b == 61) flag.1) (codes "--limit")
    then Some (Limit (Some (flag.0, after_first (λ b. b == 61) flag.1)))
    else None)

-- an option that the command has
abbrev pub flag_in : Allowed → Word → List Word → Option Given
flag_in allowed.Nothing flag values = None
flag_in allowed.Deleted flag values = if bytes_eq flag.1 (codes "--deleted") then Some Deleted else None
flag_in allowed.Limit flag values = limit_given flag values

abbrev pub flags_in : Allowed → List Word → List Word → Option Given
flags_in allowed [] values = Some Nothing
flags_in allowed (flag ∷ []) values = flag_in allowed flag values
flags_in allowed (flag ∷ second ∷ more) values = None

-- there is at most one option, and the command has it
abbrev pub given_in : Allowed → Parted → Option Given
given_in allowed p = flags_in allowed p.flags p.values

abbrev pub is_deleted : Given → Bool
is_deleted Nothing = false
is_deleted Deleted = true
is_deleted (Limit word) = false

-- the value of `--limit`
abbrev pub limit_word : Given → Option Word
limit_word Nothing = None
limit_word Deleted = None
limit_word (Limit word) = word

-- the option is one that the command may have
abbrev pub allows : Allowed → Given → Bool
allows allowed Nothing = true
allows allowed.Nothing Deleted = false
allows allowed.Deleted Deleted = true
allows allowed.Limit Deleted = false
allows allowed.Nothing (Limit word) = false
allows allowed.Deleted (Limit word) = false
allows allowed.Limit (Limit word) = true
