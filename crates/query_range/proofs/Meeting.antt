-- The keys that meet a pattern make one run of all keys of its width: it begins at the pattern's floor.
use Rattle.std.proofs.Common.{◌≡◌, ◌≢◌, ℕ, ◌<◌, true, false, List, [], ◌∷◌, length, get_or, suc, refl, sym, subst}
use Rattle.std.proofs.Common.{arith, Ordering, Less, Equal, Greater}
use Rattle.std.specs.Cmp.Lexicographic.{pointwise, bytes_decides}
use Rattle.std.specs.List.{starts_with}
use Rattle.std.specs.Ordering.{ordering_then}
use Rattle.std.specs.Prelude.{nat_eq}
use Rattle.index_tables.specs.Order.{Key, key_cmp}
use Rattle.u1_base.specs.Ids.{id_cmp}
use Rattle.u1_base.proofs.Booleans.{both, first, second}
use Rattle.u1_base.proofs.SameIds.{id_tied, id_ties_itself}
use Rattle.query_range.specs.inner.Floor.{floor_of}
use Rattle.query_range.specs.Patterns.{IsPattern, is_any, is_open, meets, part_meets}
use Rattle.query_range.specs.declared.pattern.Part.{Part}
use Rattle.query_range.specs.declared.pattern.Part.TheVariants.{Exact, Prefix, Any}
use Rattle.query_range.proofs.Begins.{begins_above, begins_between}

tail_pattern : (part : Part) (parts : List Part) → IsPattern (part ∷ parts) → IsPattern parts
tail_pattern part parts pattern i j d lt le = pattern (suc i) (suc j) d (omega arith) (omega arith)

abbrev AreAny : List Part → Type 0
AreAny parts = (k : ℕ) (d : Part) → k < length parts → is_any (get_or parts k d) ≡ true

behind_open : (part : Part) (parts : List Part) → IsPattern (part ∷ parts) → is_open part ≡ true → AreAny parts
behind_open part parts pattern opened k d lt = pattern 0 (suc k) d (omega arith) (omega arith) opened

any_meets : (parts : List Part) (key : Key) → AreAny parts → length key ≡ length parts → meets parts key ≡ true
any_meets [] [] any long = refl
any_meets [] (text ∷ key) any long = absurd (omega arith)
any_meets (part ∷ parts) [] any long = absurd (omega arith)
any_meets (Exact exact ∷ parts) (text ∷ key) any long = let refuted : false ≡ true = any 0 (Exact exact) (omega arith)
    in absurd (cc)
any_meets (Prefix prefix ∷ parts) (text ∷ key) any long = let refuted : false ≡ true =
    any 0 (Prefix prefix) (omega arith) in absurd (cc)
any_meets (Any ∷ parts) (text ∷ key) any long =
    any_meets parts key (λ k d lt. any (suc k) d (omega arith)) (omega arith)

is_exact : (text exact : List ℕ) → pointwise nat_eq text exact ≡ true → text ≡ exact
is_exact text exact is = (bytes_decides text exact).0 is

-- no key that meets the pattern is below the floor
pub floor_below : (parts : List Part) (key : Key) → meets parts key ≡ true → key_cmp key (floor_of parts) ≢ Less
floor_below [] [] is = λ less. absurd (cc)
floor_below [] (text ∷ key) is = λ less. absurd (cc)
floor_below (part ∷ parts) [] is = absurd (cc)
floor_below (Exact exact ∷ parts) (text ∷ key) is =
    let same : text ≡ exact = is_exact text exact (first (part_meets (Exact exact) text) (meets parts key) is) in
    let tie : id_cmp text exact ≡ Equal = subst (λ (t : List ℕ). id_cmp text t ≡ Equal) same (id_ties_itself text) in
    subst (λ (r : Ordering). ordering_then r (key_cmp key (floor_of parts)) ≢ Less) (sym tie)
    (floor_below parts key (second (part_meets (Exact exact) text) (meets parts key) is))
floor_below (Prefix prefix ∷ parts) (text ∷ key) is =
    elim (id_cmp text prefix) as (λ (r : Ordering). r ≢ Less → ordering_then r (key_cmp key []) ≢ Less) [
      | Less ↦ λ not_less. absurd (not_less refl)
      | Equal ↦ λ not_less. above_nothing key
      | Greater ↦ λ not_less less. absurd (cc)
    ] (begins_above prefix text (first (part_meets (Prefix prefix) text) (meets parts key) is))
  where
    above_nothing : (k : Key) → key_cmp k [] ≢ Less
    above_nothing [] less = absurd (cc)
    above_nothing (t ∷ k) less = absurd (cc)
floor_below (Any ∷ parts) (text ∷ key) is = λ less. absurd (cc)

-- a key that is not below the floor meets the pattern, where one that is not below this key does
pub meets_between : (parts : List Part) (key upper : Key) → IsPattern parts → length key ≡ length parts
    → key_cmp key (floor_of parts) ≢ Less → key_cmp key upper ≢ Greater → meets parts upper ≡ true
    → meets parts key ≡ true
meets_between [] [] upper pattern long low high is = refl
meets_between [] (text ∷ key) upper pattern long low high is = absurd (omega arith)
meets_between (part ∷ parts) [] upper pattern long low high is = absurd (omega arith)
meets_between (part ∷ parts) (text ∷ key) [] pattern long low high is = absurd (cc)
meets_between (Exact exact ∷ parts) (text ∷ key) (other ∷ upper) pattern long low high is =
    let same : other ≡ exact = is_exact other exact (first (part_meets (Exact exact) other) (meets parts upper) is) in
    elim (id_cmp text exact) as (λ (r : Ordering). id_cmp text exact ≡ r
    → ordering_then r (key_cmp key (floor_of parts)) ≢ Less → ordering_then r (key_cmp key upper) ≢ Greater
    → meets (Exact exact ∷ parts) (text ∷ key) ≡ true) [
      | Less ↦ λ e l h. absurd (l refl)
      | Equal ↦ λ e l h.
          both (pointwise nat_eq text exact) (meets parts key) ((bytes_decides text exact).1 (id_tied text exact e))
          (meets_between parts key upper (tail_pattern (Exact exact) parts pattern) (omega arith) l h
          (second (part_meets (Exact exact) other) (meets parts upper) is))
      | Greater ↦ λ e l h. absurd (h refl)
    ] refl low (subst (λ (t : List ℕ). ordering_then (id_cmp text t) (key_cmp key upper) ≢ Greater) same high)
meets_between (Prefix prefix ∷ parts) (text ∷ key) (other ∷ upper) pattern long low high is =
    both (starts_with nat_eq text prefix) (meets parts key)
    (begins_between prefix text other (not_first_less (id_cmp text prefix) (key_cmp key []) low)
    (not_first_greater (id_cmp text other) (key_cmp key upper) high)
    (first (part_meets (Prefix prefix) other) (meets parts upper) is))
    (any_meets parts key (behind_open (Prefix prefix) parts pattern refl) (omega arith))
  where
    not_first_less : (r s : Ordering) → ordering_then r s ≢ Less → r ≢ Less
    not_first_less Less s h = h
    not_first_less Equal s h = λ e. absurd (cc)
    not_first_less Greater s h = λ e. absurd (cc)

    not_first_greater : (r s : Ordering) → ordering_then r s ≢ Greater → r ≢ Greater
    not_first_greater Less s h = λ e. absurd (cc)
    not_first_greater Equal s h = λ e. absurd (cc)
    not_first_greater Greater s h = h
meets_between (Any ∷ parts) (text ∷ key) (other ∷ upper) pattern long low high is =
    any_meets parts key (behind_open Any parts pattern refl) (omega arith)
