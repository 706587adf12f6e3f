-- What is printed of a content, and why nothing was.
use Rattle.std.specs.Prelude.{◌≡◌, ◌⊎◌, ℕ, List, Option, Some}
use Rattle.std.specs.Io.KnownBytes.{Appends}
use Rattle.std.specs.Option.{option_map}
use Rattle.content.specs.Canonical.{canonical}
use Rattle.content.specs.Faults.{fault_of}
use Rattle.content.specs.Reading.{content_in}
use Rattle.content.specs.declared.fault.ContentFault.TheVariants.{Memory}
use Rattle.examples.specs.declared.canonical.PrintFault.{PrintFault}
use Rattle.examples.specs.declared.canonical.PrintFault.TheVariants.{Content, Sink}

-- the output took the canonical text of the content that these bytes read as
abbrev pub PrintsCanonical : List ℕ → Option (List ℕ) → Option (List ℕ) → Type 0
PrintsCanonical json before after = (text : List ℕ) × (option_map canonical (content_in json) ≡ Some text)
    × Appends before after text

-- a refusal is the fault of the bytes, unless memory ran out
abbrev pub IsWhy : List ℕ → PrintFault → Type 0
IsWhy json (Content fault) = (fault ≡ Memory) ⊎ (fault_of json ≡ Some fault)
IsWhy json Sink = Unit {0}
