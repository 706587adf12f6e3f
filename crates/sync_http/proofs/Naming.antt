-- The fields of one name, as they are found one by one.
use Rattle.std.proofs.Common.{◌≡◌, ℕ, ◌<◌, ◌+◌, Bool, true, false, List, [], ◌∷◌, ◌++◌, length, take, map, get_or, refl}
use Rattle.std.proofs.Common.{sym, ◌∙◌, ap, subst, append-nil, if◌then◌else◌}
use Rattle.std.specs.Str.{str_eq_ignore_ascii_case}
use Rattle.std.proofs.lemmas.List.{map_more}
use Rattle.httparse.specs.declared.spans.Span.{Span}
use Rattle.httparse.specs.declared.spans.HeaderSpan.{HeaderSpan}
use Rattle.httparse.specs.Spans.{IsWithin, span_bytes, header_bytes}
use Rattle.sync_http.specs.Fields.{Pair, values_named}
use Rattle.sync_http.specs.inner.Occurrence.{AreFound, one_more}
use Rattle.sync_http.specs.declared.fields.Occurrence.{Occurrence}
use Rattle.sync_http.specs.declared.fields.Occurrence.TheVariants.{Missing, Once, Often}

-- the value of a field, if it has the name
abbrev value_if : Bool → List ℕ → List (List ℕ)
value_if named value = if named then value ∷ [] else []

values-push : (name : List ℕ) (ps : List Pair) (p : Pair)
    → values_named name (ps ++ p ∷ []) ≡ values_named name ps ++ value_if (str_eq_ignore_ascii_case p.0 name) p.1
values-push name [] p = refl
values-push name (q ∷ ps) p =
    elim (str_eq_ignore_ascii_case q.0 name) as
    (λ t. (if t then q.1 ∷ values_named name (ps ++ p ∷ []) else values_named name (ps ++ p ∷ []))
    ≡ (if t then q.1 ∷ values_named name ps else values_named name ps)
    ++ value_if (str_eq_ignore_ascii_case p.0 name) p.1) [
      | true ↦ ap (λ vs. q.1 ∷ vs) (values-push name ps p)
      | false ↦ values-push name ps p
    ]

more_found : (bytes : List ℕ) (vs : List (List ℕ)) (f : Occurrence) (s : Span) → IsWithin (length bytes) s
    → AreFound bytes vs f → AreFound bytes (vs ++ span_bytes bytes s ∷ []) (one_more f s)
more_found bytes vs Missing s within h = (within, ap (λ us. us ++ span_bytes bytes s ∷ []) h)
more_found bytes vs (Once t) s within h =
    (span_bytes bytes t, span_bytes bytes s, [], ap (λ us. us ++ span_bytes bytes s ∷ []) h.1)
more_found bytes vs Often s within h =
    (h.0, h.1, h.2 ++ span_bytes bytes s ∷ [], ap (λ us. us ++ span_bytes bytes s ∷ []) h.3)

-- the fields up to one more
abbrev pub so_far : List ℕ → List ℕ → List HeaderSpan → ℕ → List (List ℕ)
so_far bytes name headers i = values_named name (map (header_bytes bytes) (take i headers))

one_further : (bytes name : List ℕ) (headers : List HeaderSpan) (i : ℕ) (d : HeaderSpan) → i < length headers →
    so_far bytes name headers (i + 1) ≡ so_far bytes name headers i
    ++ value_if (str_eq_ignore_ascii_case (span_bytes bytes (get_or headers i d).name) name)
    (span_bytes bytes (get_or headers i d).value)
one_further bytes name headers i d less =
    ap (values_named name) (map_more (header_bytes bytes) headers i d less)
    ∙ values-push name (map (header_bytes bytes) (take i headers)) (header_bytes bytes (get_or headers i d))

pub found_named : (bytes name : List ℕ) (headers : List HeaderSpan) (i : ℕ) (d : HeaderSpan) (f : Occurrence)
    → i < length headers → IsWithin (length bytes) (get_or headers i d).value →
    str_eq_ignore_ascii_case (span_bytes bytes (get_or headers i d).name) name ≡ true
    → AreFound bytes (so_far bytes name headers i) f
    → AreFound bytes (so_far bytes name headers (i + 1)) (one_more f (get_or headers i d).value)
found_named bytes name headers i d f less within named so =
    subst (λ vs. AreFound bytes vs (one_more f (get_or headers i d).value))
    (sym (one_further bytes name headers i d less
    ∙ ap (λ b. so_far bytes name headers i ++ value_if b (span_bytes bytes (get_or headers i d).value)) named))
    (more_found bytes (so_far bytes name headers i) f (get_or headers i d).value within so)

pub found_other : (bytes name : List ℕ) (headers : List HeaderSpan) (i : ℕ) (d : HeaderSpan) (f : Occurrence)
    → i < length headers →
    str_eq_ignore_ascii_case (span_bytes bytes (get_or headers i d).name) name ≡ false
    → AreFound bytes (so_far bytes name headers i) f → AreFound bytes (so_far bytes name headers (i + 1)) f
found_other bytes name headers i d f less other so =
    subst (λ vs. AreFound bytes vs f)
    (sym (one_further bytes name headers i d less
    ∙ ap (λ b. so_far bytes name headers i ++ value_if b (span_bytes bytes (get_or headers i d).value)) other
    ∙ append-nil (so_far bytes name headers i))) so
