-- What the values of a query are read as, one after the other.
use Rattle.std.proofs.Common.{◌≡◌, ◌≢◌, ℕ, ◌-◌, ◌<◌, Bool, true, false, cond, ◌&&◌, List, [], ◌∷◌, ◌++◌, length, map}
use Rattle.std.proofs.Common.{take, drop, get_or, zero, suc, refl, sym, subst, ◌∙◌, ap, arith, eqb-true, inl, inr}
use Rattle.std.proofs.lemmas.Bool.{cases_Bool}
use Rattle.std.proofs.lemmas.List.{take-map, length-map, take-append-drop}
use Rattle.std.specs.Cmp.Lexicographic.{pointwise}
use Rattle.std.specs.List.{list_any, ends_with}
use Rattle.std.specs.Prelude.{nat_eq, codes}
use Rattle.query_range.specs.Patterns.{BreaksFirst, IsPattern, before_star, is_any, is_open, meets, part_meets, part_of}
use Rattle.query_range.specs.declared.pattern.Part.{Part}
use Rattle.query_range.specs.declared.pattern.Part.TheVariants.{Exact}

-- a value that ends in a byte is what stands before it, and that byte
last_is : (n : ℕ) (v : List ℕ) → ends_with nat_eq v (n ∷ []) ≡ true → v ≡ take (length v - 1) v ++ n ∷ []
last_is n v ends = sym (take-append-drop (length v - 1) v)
    ∙ ap (λ (l : List ℕ). take (length v - 1) v ++ l) (only (drop (length v - 1) v) ends)
  where
    only : (l : List ℕ) → pointwise nat_eq (n ∷ []) l ≡ true → l ≡ n ∷ []
    only [] is = absurd (cc)
    only (x ∷ []) is = by x (nat_eq n x) refl is
      where
        by : (x : ℕ) (b : Bool) → nat_eq n x ≡ b → (b && true) ≡ true → x ∷ [] ≡ n ∷ []
        by x true e h = ap (λ (m : ℕ). m ∷ []) (sym (eqb-true n x e))
        by x false e h = absurd (cc)
    only (x ∷ y ∷ l) is = by (nat_eq n x) is
      where
        by : (b : Bool) → (b && false) ≡ true → x ∷ y ∷ l ≡ n ∷ []
        by true h = absurd (cc)
        by false h = absurd (cc)

-- a value that ends in no star is exact
pub exact_part : (v : List ℕ) → ((front : List ℕ) → v ≢ front ++ 42 ∷ []) → part_of v ≡ Exact v
exact_part v none =
    elim (cases_Bool (ends_with nat_eq v (codes "*"))) [
      | inl starred_one ↦ absurd (none (take (length v - 1) v) (last_is 42 v starred_one))
      | inr other ↦ ap (λ (b : Bool). cond b (before_star (take (length v - 1) v)) (Exact v)) other
    ]

-- the value at a place breaks the rule, and those before it are a pattern
pub breaks_first : (values : List (List ℕ)) (n : ℕ) (value : List ℕ) (parts : List Part) (part : Part) (opened : Bool)
    → n < length values → value ≡ get_or values n value → part ≡ part_of value
    → parts ≡ map part_of (take n values) → opened ≡ list_any is_open parts → IsPattern parts → opened ≡ true
    → is_any part ≡ false → BreaksFirst (map part_of values) n
breaks_first values n value parts part opened lt at is parts_is open_is pattern behind here =
    let front : parts ≡ take n (map part_of values) = parts_is ∙ sym (take-map part_of n values) in
    record {
      within = omega (arith, length-map values part_of);
      before = subst IsPattern front pattern;
      behind_open = subst (λ (l : List Part). list_any is_open l ≡ true) front (sym open_is ∙ behind);
      not_any = λ d. ap is_any (sym (there values n d lt) ∙ ap part_of (sym (at ∙ other values n value d lt)) ∙ sym is)
          ∙ here;
    }
  where
    there : (vs : List (List ℕ)) (k : ℕ) (d : Part) → k < length vs
        → part_of (get_or vs k []) ≡ get_or (map part_of vs) k d
    there [] k d below = absurd (omega arith)
    there (v ∷ vs) zero d below = refl
    there (v ∷ vs) (suc k) d below = there vs k d (omega arith)

    other : (vs : List (List ℕ)) (k : ℕ) (x : List ℕ) (d : Part) → k < length vs → get_or vs k x ≡ get_or vs k []
    other [] k x d below = absurd (omega arith)
    other (v ∷ vs) zero x d below = refl
    other (v ∷ vs) (suc k) x d below = other vs k x d (omega arith)

-- a key of another width does not meet
pub other_width : (parts : List Part) (texts : List (List ℕ)) → length parts ≢ length texts → false ≡ meets parts texts
other_width [] [] other = absurd (other refl)
other_width [] (text ∷ texts) other = refl
other_width (part ∷ parts) [] other = refl
other_width (part ∷ parts) (text ∷ texts) other =
    by (part_meets part text) (other_width parts texts (λ same. other (omega arith)))
  where
    by : (b : Bool) → false ≡ meets parts texts → false ≡ (b && meets parts texts)
    by true h = h
    by false h = refl
