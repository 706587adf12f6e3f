-- Which pattern the values of a query are, as it is read and as it is computed.
use Rattle.std.proofs.Common.{◌≡◌, ◌⊎◌, ℕ, ◌<◌, zero, suc, Bool, true, false, cond, ◌||◌, List, [], ◌∷◌, length, map}
use Rattle.std.proofs.Common.{take, refl, sym, subst, ◌∙◌, ap, arith, inl, inr, Option, Some, None, Ok, Err}
use Rattle.std.proofs.lemmas.Bool.{eq-eqb, ne_eqb}
use Rattle.std.proofs.lemmas.List.Elements.{All-head, All-tail}
use Rattle.std.specs.List.{All, HoldsAt, list_any}
use Rattle.std.specs.Option.{option_map}
use Rattle.query_range.specs.Patterns.{BreaksFirst, IsPattern, ReadsPattern, is_any, is_open, part_of}
use Rattle.query_range.specs.declared.fault.PatternFault.{PatternFault}
use Rattle.query_range.specs.declared.fault.PatternFault.TheVariants.{WrongWidth, BadGlob, Memory}
use Rattle.query_range.specs.declared.pattern.Part.{Part}
use Rattle.query_range.specs.declared.pattern.Part.TheVariants.{Any}
use Rattle.replica_reads.specs.Faults.{query_fault}
use Rattle.replica_reads.specs.Patterns.{bad_glob, first_other, pattern_in, unless_at}
use Rattle.replica_reads.specs.declared.fault.QueryFault.TheVariants as query

abbrev AllAny : List Part → Type 0
AllAny parts = All (λ part. is_any part ≡ true) parts

no_other : (parts : List Part) → AllAny parts → first_other parts ≡ None
no_other [] all = refl
no_other (part ∷ parts) all =
    ap (λ (b : Bool). cond b (option_map suc (first_other parts)) (Some 0))
    (All-head (λ p. is_any p ≡ true) part parts all)
    ∙ ap (option_map suc) (no_other parts (All-tail (λ p. is_any p ≡ true) part parts all))

later_any : (part : Part) (parts : List Part) → IsPattern (part ∷ parts) → is_open part ≡ true → AllAny parts
later_any part parts pattern is = λ k d lt. pattern 0 (suc k) d (omega arith) (omega arith) is

no_bad : (parts : List Part) → IsPattern parts → bad_glob parts ≡ None
no_bad [] pattern = refl
no_bad (part ∷ parts) pattern = ap (option_map suc)
    (elim (is_open part) as (λ (b : Bool). is_open part ≡ b → cond b (first_other parts) (bad_glob parts) ≡ None) [
      | true ↦ λ e. no_other parts (later_any part parts pattern e)
      | false ↦ λ e. no_bad parts (λ i j d lt le. pattern (suc i) (suc j) d (omega arith) (omega arith))
    ] refl)

other_at : (parts : List Part) (place : ℕ) → place < length parts → AllAny (take place parts)
    → HoldsAt (λ part. is_any part ≡ false) parts place → first_other parts ≡ Some place
other_at [] place lt all at = absurd (omega arith)
other_at (part ∷ parts) zero lt all at =
    ap (λ (b : Bool). cond b (option_map suc (first_other parts)) (Some 0)) (at Any)
other_at (part ∷ parts) (suc place) lt all at =
    ap (λ (b : Bool). cond b (option_map suc (first_other parts)) (Some 0))
    (All-head (λ p. is_any p ≡ true) part (take place parts) all)
    ∙ ap (option_map suc) (other_at parts place (omega arith)
    (All-tail (λ p. is_any p ≡ true) part (take place parts) all) at)

bad_at : (parts : List Part) (place : ℕ) → BreaksFirst parts place → bad_glob parts ≡ Some place
bad_at [] place b = absurd (omega (arith, b.within))
bad_at (part ∷ parts) zero b = absurd (nothing b.behind_open)
  where
    nothing : false ≡ true → ⊥
    nothing e = absurd (cc)
bad_at (part ∷ parts) (suc place) b = ap (option_map suc)
    (elim (is_open part) as (λ (o : Bool). is_open part ≡ o
    → cond o (first_other parts) (bad_glob parts) ≡ Some place) [
      | true ↦ λ e. other_at parts place (omega (arith, b.within))
          (later_any part (take place parts) b.before e) b.not_any
      | false ↦ λ e. bad_at parts place (record {
        within = omega (arith, b.within);
        before = λ i j d lt le. b.before (suc i) (suc j) d (omega arith) (omega arith);
        behind_open = sym (ap (λ (o : Bool). later o) e) ∙ b.behind_open;
        not_any = b.not_any;
      })
    ] refl)
  where
    later : Bool → Bool
    later o = o || list_any is_open (take place parts)

module _ (values : List (List ℕ)) (width : ℕ) where
  abbrev parts : List Part
  parts = map part_of values

  of_width : length values ≡ width → pattern_in values width ≡ unless_at (bad_glob parts) parts
  of_width e = ap (λ (b : Bool). cond b (unless_at (bad_glob parts) parts) (Err query.WrongWidth))
      (eq-eqb (length values) width e)

  pub read_pattern : (ps : List Part) → ReadsPattern values width (Ok ps) → pattern_in values width ≡ Ok ps
  read_pattern ps read =
      of_width read.0
      ∙ ap (λ (o : Option ℕ). unless_at o parts) (no_bad parts (subst IsPattern read.1 read.2))
      ∙ ap (λ (l : List Part). Ok l) (sym read.1)

  pub read_fault : (fault : PatternFault) → ReadsPattern values width (Err fault) → (query_fault fault ≡ query.Memory)
      ⊎ (pattern_in values width ≡ Err (query_fault fault))
  read_fault WrongWidth read =
      inr (ap (λ (b : Bool). cond b (unless_at (bad_glob parts) parts) (Err query.WrongWidth))
      (ne_eqb (length values) width read))
  read_fault (BadGlob place) read = inr (of_width read.0
      ∙ ap (λ (o : Option ℕ). unless_at o parts) (bad_at parts place read.1))
  read_fault Memory read = inl refl
