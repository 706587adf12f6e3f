-- What the fields of one name are found to be.
use Rattle.std.specs.Prelude.{◌≡◌, ℕ, List, [], ◌∷◌, length}
use Rattle.httparse.specs.Spans.{IsWithin, span_bytes}
use Rattle.httparse.specs.declared.spans.Span.{Span}
use Rattle.sync_http.specs.declared.fields.Occurrence.{Occurrence}
use Rattle.sync_http.specs.declared.fields.Occurrence.TheVariants.{Missing, Once, Often}

abbrev pub AreFound : List ℕ → List (List ℕ) → Occurrence → Type 0
AreFound bytes values Missing = values ≡ []
AreFound bytes values (Once s) = IsWithin (length bytes) s × (values ≡ span_bytes bytes s ∷ [])
AreFound bytes values Often = (first second : List ℕ) × (more : List (List ℕ)) × (values ≡ first ∷ second ∷ more)

-- one more field of the name
abbrev pub one_more : Occurrence → Span → Occurrence
one_more Missing s = Once s
one_more (Once t) s = Often
one_more Often s = Often
