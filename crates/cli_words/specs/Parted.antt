-- How the words after the command are parted into operands and options.
use Rattle.std.specs.Prelude.{ℕ, ◌+◌, ◌==◌, ◌&&◌, Bool, nat_lt, List, [], ◌∷◌, ◌++◌, codes, length, slice_index}
use Rattle.std.specs.Prelude.{if◌then◌else◌}
use Rattle.std.specs.Str.{bytes_eq}
use Rattle.cli_words.specs.Word.{Word}
use Rattle.cli_words.specs.declared.parted.Next.{Next}
pub use Rattle.cli_words.specs.declared.parted.Next.TheVariants.{Any}
use Rattle.cli_words.specs.declared.parted.Next.TheVariants as next_is
use Rattle.cli_words.specs.declared.parted.Role.{Role}
use Rattle.cli_words.specs.declared.parted.Role.TheVariants as word_is
use Rattle.cli_words.specs.declared.parted.Parted.{Parted}

-- at least two bytes, the first of which is `-` (45)
abbrev pub is_option : List ℕ → Bool
is_option text = nat_lt 1 (length text) && slice_index text 0 == 45

abbrev pub is_dashes : List ℕ → Bool
is_dashes text = bytes_eq text (codes "--")

-- the first `--`, an option, or else this
abbrev pub unless_option : List ℕ → Role → Role
unless_option text plain = if is_dashes text then word_is.Dashes else (if is_option text then word_is.Flag else plain)

-- what a word is, by what the words before it make of it: after the first `--` each word is an operand; a word after
-- `--limit` that is no option is its value
abbrev pub role_of : Next → List ℕ → Role
role_of next_is.Operand text = word_is.Operand
role_of next_is.Any text = unless_option text word_is.Operand
role_of next_is.Value text = unless_option text word_is.Value

-- what a word makes of the next one
abbrev pub after_word : List ℕ → Next
after_word text =
    if is_dashes text then next_is.Operand else (if bytes_eq text (codes "--limit") then next_is.Value else next_is.Any)

abbrev pub after : Next → List ℕ → Next
after next_is.Operand text = next_is.Operand
after next_is.Any text = after_word text
after next_is.Value text = after_word text

abbrev pub nothing : Parted
nothing = record { operands = []; flags = []; values = [] }

-- one word by what it is
abbrev pub one : Role → Word → Parted
one word_is.Operand word = record nothing { operands = word ∷ [] }
one word_is.Flag word = record nothing { flags = word ∷ [] }
one word_is.Value word = record nothing { values = word ∷ [] }
one word_is.Dashes word = nothing

abbrev pub joined : Parted → Parted → Parted
joined p q = record {
  operands = p.operands ++ q.operands;
  flags = p.flags ++ q.flags;
  values = p.values ++ q.values;
}

-- the words from a place on
abbrev pub parted : Next → ℕ → List (List ℕ) → Parted
parted next place [] = nothing
parted next place (text ∷ texts) =
    joined (one (role_of next text) (place, text)) (parted (after next text) (place + 1) texts)
