-- The ends of a range.
use Rattle.std.specs.Prelude.{ℕ, ◌&&◌, nat_le, List, [], ◌∷◌, codes, length, Option, Some, None, option_map}
use Rattle.std.specs.Prelude.{option_and_then, if◌then◌else◌}
use Rattle.std.specs.Str.{bytes_eq}
use Rattle.serde_json.specs.Data.{Items, no_items, item}
use Rattle.serde_json.specs.Find.{as_array, as_str}
use Rattle.content.specs.Faults.{value_of}
use Rattle.u1_base.specs.declared.limits.TheConstants.{MOST_KEY_TEXTS}

-- the texts of a JSON list, if all its items are texts
abbrev pub texts_in : Items → Option (List (List ℕ))
texts_in no_items = Some []
texts_in (item d ds) = option_and_then (λ s. option_map (λ rest. s ∷ rest) (texts_in ds)) (as_str d)

-- a key has 1 to 8 texts
abbrev pub key_if : List (List ℕ) → Option (List (List ℕ))
key_if texts = if nat_le 1 (length texts) && nat_le (length texts) MOST_KEY_TEXTS then Some texts else None

-- the key whose texts a JSON list is
abbrev pub key_in : List ℕ → Option (List (List ℕ))
key_in text = option_and_then key_if (option_and_then texts_in (option_and_then as_array (value_of text)))

-- `open`, for which None stands inside, or a key
abbrev pub end_in : List ℕ → Option (Option (List (List ℕ)))
end_in text = if bytes_eq text (codes "open") then Some None else option_map (λ key. Some key) (key_in text)
