-- The words of a text, and lists without doubles.
use Rattle.std.specs.Prelude.{ℕ, not, ◌==◌, List, [], ◌∷◌, length, map, filter, encode_utf8_all}
use Rattle.std.specs.Char.{is_whitespace}
use Rattle.std.specs.List.{slice_split}
use Rattle.std.specs.Str.{bytes_eq, chars}

-- the pieces between white space that are not empty, of a text's characters
abbrev pub words_of : List ℕ → List (List ℕ)
words_of characters = filter (λ piece. not (length piece == 0)) (slice_split is_whitespace characters)

-- the words of a text: its longest runs of characters that are no white space, as `char::is_whitespace` says
abbrev pub words_in : List ℕ → List (List ℕ)
words_in text = map encode_utf8_all (words_of (chars text))

-- each text once, at its first place
abbrev pub distinct : List (List ℕ) → List (List ℕ)
distinct [] = []
distinct (text ∷ texts) = text ∷ filter (λ other. not (bytes_eq text other)) (distinct texts)
