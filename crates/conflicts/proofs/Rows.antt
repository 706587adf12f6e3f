-- The rows of the table, by what the members are to the incoming revision.
use Rattle.std.specs.Prelude.{◌≡◌, Bool, true, false, cond, not, ◌&&◌, is_some, List, ◌∷◌, Option, Some, None, Result}
use Rattle.std.specs.Prelude.{Ok, Err, IfOk, refl}
use Rattle.std.specs.List.{list_any}
use Rattle.std.proofs.Common.{sym, ◌∙◌, ap, inl, inr}
use Rattle.vector_rev.specs.Counts.{Uid}
use Rattle.vector_rev.specs.Clock.{Clock, covers, dominates}
use Rattle.vector_rev.specs.Compare.{same}
use Rattle.conflicts.specs.Lists.{In}
use Rattle.conflicts.specs.Document.{has_rev, others}
use Rattle.conflicts.specs.Kept.{Kept, current, current_first, document}
use Rattle.conflicts.specs.Decision.{nothing, accepts, may_merge, merge_of, decides_over, decides}
use Rattle.conflicts.specs.inner.Walk.{IsMerging, SomeNewer, SomeSame}
use Rattle.conflicts.specs.declared.member.Member.{Member}
use Rattle.conflicts.specs.declared.merges.Merging.{Merging}
use Rattle.conflicts.specs.declared.accept.Accept.{Accept}
use Rattle.conflicts.specs.declared.receipts.Taken.{Taken}
use Rattle.conflicts.specs.declared.receipts.Outcome4.TheVariants.{Inserted, Superseded, Converged, Conflicted}
use Rattle.std.proofs.lemmas.Bool.{and_parts}
use Rattle.vector_rev.proofs.ClockLaws.{same_decides, covers-itself}
use Rattle.conflicts.proofs.Apart.{same_itself, not_covered_not_same}
use Rattle.u1_base.proofs.Booleans.{none_true, not_both, not_true}
use Rattle.conflicts.proofs.Members.{none_passes, passes_none}
use Rattle.conflicts.proofs.Sets.{current_first_is}

-- an answer that is the one is the other where they are equal
pub ok_then : {E : Type 0} (r : Result Taken E) (t u : Taken) → IfOk r (λ v. v ≡ t) → t ≡ u → IfOk r (λ v. v ≡ u)
ok_then (Ok v) t u h e = h ∙ e
ok_then (Err x) t u h e = tt

-- ---- the first three rows

-- the rows from the fourth on
abbrev later_rows : Clock → List Member → List Member → Member → Bool → Uid → Taken
later_rows c ms rest x save own =
    cond (list_any (λ m. dominates m.rev x.rev) rest) (nothing Superseded)
    (cond (has_rev rest x.rev && save) (accepts Conflicted x)
    (cond (has_rev rest x.rev) (nothing Conflicted)
    (cond (may_merge ms x own && is_some (merge_of c ms x save own))
    (record { outcome = Superseded; accepted = merge_of c ms x save own })
    (cond save (accepts Conflicted x) (nothing Conflicted)))))

-- the rows by the three tests of the first ones
abbrev by_tests : Bool → Bool → Bool → Member → Taken → Taken
by_tests equal older newer x later = cond equal (nothing Converged)
    (cond older (nothing Superseded) (cond newer (accepts Inserted x) later))

tests_are : (c : Clock) (ms rest : List Member) (x : Member) (save : Bool) (own : Uid) (e o n : Bool)
    → same x.rev c ≡ e → dominates c x.rev ≡ o → dominates x.rev c ≡ n
    → decides_over c ms rest x save own ≡ by_tests e o n x (later_rows c ms rest x save own)
tests_are c ms rest x save own e o n p q r = λ i. by_tests (p i) (q i) (r i) x (later_rows c ms rest x save own)

pub row_equal : (c : Clock) (ms rest : List Member) (x : Member) (save : Bool) (own : Uid) → x.rev ≡ c
    → nothing Converged ≡ decides_over c ms rest x save own
row_equal c ms rest x save own e =
    sym (tests_are c ms rest x save own true (dominates c x.rev) (dominates x.rev c)
    (ap (same x.rev) (sym e) ∙ same_itself x.rev) refl refl)

pub row_older : (c : Clock) (ms rest : List Member) (x : Member) (save : Bool) (own : Uid) → dominates c x.rev ≡ true
    → nothing Superseded ≡ decides_over c ms rest x save own
row_older c ms rest x save own h =
    sym (tests_are c ms rest x save own false true (dominates x.rev c)
    (not_covered_not_same x.rev c (not_true _ (and_parts (covers c x.rev) (not (covers x.rev c)) h).1)) h refl)

pub row_newer : (c : Clock) (ms rest : List Member) (x : Member) (save : Bool) (own : Uid) → dominates x.rev c ≡ true
    → accepts Inserted x ≡ decides_over c ms rest x save own
row_newer c ms rest x save own h =
    let p = and_parts (covers x.rev c) (not (covers c x.rev)) h in
    let n : covers c x.rev ≡ false = not_true _ p.1 in
    sym (tests_are c ms rest x save own false false true
    (none_true _ (λ e. not_both _ (ap (λ (z : Clock). covers c z) ((same_decides x.rev c).0 e) ∙ covers-itself c) n))
    (ap (λ b. b && not (covers x.rev c)) n) h)

apart_rows : (c : Clock) (ms rest : List Member) (x : Member) (save : Bool) (own : Uid) → covers x.rev c ≡ false
    → covers c x.rev ≡ false → decides_over c ms rest x save own ≡ later_rows c ms rest x save own
apart_rows c ms rest x save own nx nc =
    tests_are c ms rest x save own false false false (not_covered_not_same x.rev c nx)
    (ap (λ b. b && not (covers x.rev c)) nc) (ap (λ b. b && not (covers c x.rev)) nx)

-- ---- the later rows

-- what a merge leaves to the last rows
abbrev pub after_merge : Member → Bool → Option Accept → Taken
after_merge x save None = cond save (accepts Conflicted x) (nothing Conflicted)
after_merge x save (Some a) = record { outcome = Superseded; accepted = Some a }

module _ (c : Clock) (ms rest : List Member) (x : Member) (save : Bool) (own : Uid) (nx : covers x.rev c ≡ false)
    (nc : covers c x.rev ≡ false) where
  -- the rows by the tests of the others
  by_others : (n s : Bool) → list_any (λ m. dominates m.rev x.rev) rest ≡ n → has_rev rest x.rev ≡ s
      → decides_over c ms rest x save own ≡ cond n (nothing Superseded)
      (cond (s && save) (accepts Conflicted x)
      (cond s (nothing Conflicted)
      (cond (may_merge ms x own && is_some (merge_of c ms x save own))
      (record { outcome = Superseded; accepted = merge_of c ms x save own })
      (cond save (accepts Conflicted x) (nothing Conflicted)))))
  by_others n s p q =
      apart_rows c ms rest x save own nx nc
      ∙ (λ i. cond (p i) (nothing Superseded)
      (cond (q i && save) (accepts Conflicted x)
      (cond (q i) (nothing Conflicted)
      (cond (may_merge ms x own && is_some (merge_of c ms x save own))
      (record { outcome = Superseded; accepted = merge_of c ms x save own })
      (cond save (accepts Conflicted x) (nothing Conflicted))))))

  stored_case : (save : Bool) → cond (true && save) (accepts Conflicted x) (nothing Conflicted)
      ≡ cond save (accepts Conflicted x) (nothing Conflicted)
  stored_case true = refl
  stored_case false = refl

  pub row_superseded : list_any (λ m. dominates m.rev x.rev) rest ≡ true
      → nothing Superseded ≡ decides_over c ms rest x save own
  row_superseded p = sym (by_others true (has_rev rest x.rev) p refl)

  pub row_stored : list_any (λ m. dominates m.rev x.rev) rest ≡ false → has_rev rest x.rev ≡ true
      → cond save (accepts Conflicted x) (nothing Conflicted) ≡ decides_over c ms rest x save own
  row_stored p q = sym (by_others false true p q ∙ stored_case save)

  merge_case : (may : Bool) (made : Option Accept)
      → cond (may && is_some made) (record { outcome = Superseded; accepted = made })
      (cond save (accepts Conflicted x) (nothing Conflicted)) ≡ after_merge x save (cond may made None)
  merge_case true None = refl
  merge_case true (Some a) = refl
  merge_case false made = refl

  pub row_merged : (o : Option Accept) → list_any (λ m. dominates m.rev x.rev) rest ≡ false
      → has_rev rest x.rev ≡ false → o ≡ cond (may_merge ms x own) (merge_of c ms x save own) None
      → after_merge x save o ≡ decides_over c ms rest x save own
  row_merged o p q e =
      ap (after_merge x save) e
      ∙ sym (by_others false false p q ∙ merge_case (may_merge ms x own) (merge_of c ms x save own))

-- ---- the rows for a set

pub kept_superseded : (k : Kept) (x : Member) (save : Bool) (own : Uid) → covers x.rev (current k).rev ≡ false
    → covers (current k).rev x.rev ≡ false → SomeNewer k x → nothing Superseded ≡ decides (document (Some k)) x save own
kept_superseded k x save own nx nc some =
    row_superseded (current k).rev (current_first k) (others (current k).rev k.members) x save own nx nc some

pub kept_stored : {E : Type 0} (r : Result Taken E) (k : Kept) (x : Member) (save : Bool) (own : Uid)
    → covers x.rev (current k).rev ≡ false → covers (current k).rev x.rev ≡ false → SomeSame k x
    → IfOk r (λ t. t ≡ cond save (accepts Conflicted x) (nothing Conflicted))
    → IfOk r (λ t. t ≡ decides (document (Some k)) x save own)
kept_stored r k x save own nx nc some h =
    ok_then r _ _ h (row_stored (current k).rev (current_first k)
    (others (current k).rev k.members) x save own nx nc some.not_newer some.same)

module _ (k : Kept) (x : Member) (save : Bool) (own : Uid) (m : Merging) (so : IsMerging k x own (current_first k) m)
    (nx : covers x.rev (current k).rev ≡ false) where
  abbrev rest : List Member
  rest = others (current k).rev k.members

  uncovered : list_any (λ n. covers n.rev x.rev) (current k ∷ rest) ≡ false
  uncovered = ap (list_any (λ n. covers n.rev x.rev)) (sym (current_first_is k)) ∙ so.uncovered

  each_uncovered : (n : Member) → In n (current k ∷ rest) → covers n.rev x.rev ≡ false
  each_uncovered n i = none_passes (λ n. covers n.rev x.rev) n (current k ∷ rest) uncovered i

  none_newer_there : list_any (λ n. dominates n.rev x.rev) rest ≡ false
  none_newer_there =
      passes_none (λ n. dominates n.rev x.rev) rest
      (λ n i. ap (λ b. b && not (covers x.rev n.rev)) (each_uncovered n (inr i)))

  none_same_there : has_rev rest x.rev ≡ false
  none_same_there =
      passes_none (λ n. same n.rev x.rev) rest (λ n i. not_covered_not_same n.rev x.rev (each_uncovered n (inr i)))

  pub kept_merged : (o : Option Accept)
      → o ≡ cond (may_merge (current_first k) x own) (merge_of (current k).rev (current_first k) x save own) None
      → after_merge x save o ≡ decides (document (Some k)) x save own
  kept_merged o e =
      row_merged (current k).rev (current_first k) rest x save own nx
      (each_uncovered (current k) (inl refl)) o none_newer_there none_same_there e
