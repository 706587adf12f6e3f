-- Words of private clauses: how a plain text is read where it stands.
use Rattle.std.specs.Prelude.{ℕ, ◌+◌, List, Bool, true, Option, Some, None}
use Rattle.std.specs.Cmp.Lexicographic.{slice_cmp}
use Rattle.std.specs.Ordering.{nat_cmp, is_lt}

-- how many levels the grammar of `serde_json`, which takes 127, still allows where a content, which has at most 64, may
-- nest so many deep
abbrev pub more_levels : ℕ → ℕ
more_levels levels = levels + 63

-- the name comes after the one before it, if there is one, by bytes
abbrev pub comes_after : Option (List ℕ) → List ℕ → Bool
comes_after None name = true
comes_after (Some last) name = is_lt (slice_cmp nat_cmp last name)
