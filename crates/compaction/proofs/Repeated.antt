-- What the later steps tell of the state at the end, the steps that are left of them tell too.
use Rattle.std.specs.Prelude.{◌≡◌, Bool, true, false, cond, not, ◌&&◌, ◌||◌, List, [], ◌∷◌, ◌++◌, is_some, Some, refl}
use Rattle.std.specs.List.{flat_map, list_any}
use Rattle.std.proofs.Common.{sym, ◌∙◌, ap, ap₂, subst, inl, inr, true≢false}
use Rattle.std.proofs.lemmas.Bool.{and_parts, or_cases, or_left, or_right}
use Rattle.std.proofs.lemmas.List.Folds.{list_any-append}
use Rattle.u1_base.specs.Ids.{same_id}
use Rattle.u1_base.proofs.Booleans.{none_true}
use Rattle.u1_base.proofs.SameIds.{same_id-itself, same_id_is}
use Rattle.vector_rev.specs.Counts.{Uid}
use Rattle.vector_rev.specs.Clock.{Clock}
use Rattle.vector_rev.specs.Compare.{same}
use Rattle.vector_rev.proofs.ClockLaws.{same_decides}
use Rattle.conflicts.specs.Lists.{is_empty}
use Rattle.conflicts.specs.Document.{has_rev}
use Rattle.conflicts.specs.State.{Text, Step, Accepted, Gone, Moved, IndexCreated, IndexDeleted, History, State}
use Rattle.conflicts.specs.State.{same_table}
use Rattle.conflicts.specs.declared.accept.Accept.{Accept}
use Rattle.conflicts.specs.declared.moves.PosTable.{PosTable}
use Rattle.compaction.specs.Compaction.{accepts_rev, moves, creates, Later, later_in, nothing_later, marked_by, left}
use Rattle.compaction.specs.Compaction.{compacted, trimmed}
use Rattle.compaction.proofs.Parts.{table_tied}
use Rattle.compaction.proofs.Again.{any_left, left_accepts, left_moves, left_creates}

pub same_truth : (a b : Bool) → (a ≡ true → b ≡ true) → (b ≡ true → a ≡ true) → a ≡ b
same_truth true b f g = sym (f refl)
same_truth false b f g = sym (none_true b (λ e. true≢false (sym (g e))))

module _ (s : State) where
  -- a step does it itself and is left, or a later one does it
  front : (p : Step → Bool) (xs ys : History) → list_any p ys ≡ true → list_any p (xs ++ ys) ≡ true
  front p xs ys e = list_any-append p xs ys ∙ or_right (list_any p xs) (list_any p ys) e

  here : (p : Step → Bool) (xs ys : History) → list_any p xs ≡ true → list_any p (xs ++ ys) ≡ true
  here p xs ys e = list_any-append p xs ys ∙ or_left (list_any p xs) (list_any p ys) e

  -- what some steps tell is left where the step that does it last is left
  stays : (p : Step → Bool)
      → ((x : Step) (later : History) → p x ≡ true → list_any p later ≡ false
      → list_any p (left s (later_in later) x) ≡ true) → (xs : History) → list_any p xs ≡ true
      → list_any p (compacted s xs) ≡ true
  stays p last [] e = e
  stays p last (x ∷ later) e =
      elim (list_any p later) as (λ b. list_any p later ≡ b → (p x || b) ≡ true
      → list_any p (left s (later_in later) x ++ compacted s later) ≡ true) [
        | true ↦ λ q _. front p (left s (later_in later) x) (compacted s later) (stays p last later q)
        | false ↦ λ q r. here p (left s (later_in later) x) (compacted s later)
            (last x later (elim (or_cases (p x) false r) [ inl k ↦ k | inr k ↦ absurd (true≢false (sym k)) ]) q)
      ] refl e

  last_accepts : (d : Text) (r : Clock) → has_rev (s.document d).members r ≡ true → (x : Step) (later : History)
      → accepts_rev d r x ≡ true → list_any (accepts_rev d r) later ≡ false
      → list_any (accepts_rev d r) (left s (later_in later) x) ≡ true
  last_accepts d r m (Accepted e a trans moved) later =
      elim (same_id d e) as (λ b. same_id d e ≡ b → list_any (λ (z : Accept). same z.rev r) (cond b (a ∷ []) []) ≡ true
      → list_any (accepts_rev d r) later ≡ false
      → list_any (accepts_rev d r) (left s (later_in later) (Accepted e a trans moved)) ≡ true) [
        | true ↦ λ q y none.
            let is : same a.rev r ≡ true = elim (or_cases (same a.rev r) false y) [
              | inl k ↦ k
              | inr k ↦ absurd (true≢false (sym k))
            ] in
            let t : a.rev ≡ r = (same_decides a.rev r).0 is in
            subst (λ (k : Text). list_any (accepts_rev d r) (left s (later_in later) (Accepted k a trans moved))
            ≡ true) (same_id_is d e q)
            (ap (λ b. list_any (accepts_rev d r)
            (cond b (Accepted d (marked_by (s.document d).current a) trans moved ∷ []) (Gone d trans moved ∷ [])))
            (ap₂ (λ x y. x && not y) (ap (has_rev (s.document d).members) t ∙ m)
            (ap (λ (c : Clock). list_any (accepts_rev d c) later) t ∙ none))
            ∙ ap (λ b. list_any (λ (z : Accept). same z.rev r) (cond b (marked_by (s.document d).current a ∷ []) [])
            || false) (same_id-itself d)
            ∙ ap (λ b. (b || false) || false) is)
        | false ↦ λ _ y. absurd (true≢false (sym y))
      ] refl
  last_accepts d r m (Gone e trans moved) later = λ y. absurd (true≢false (sym y))
  last_accepts d r m (Moved k) later = λ y. absurd (true≢false (sym y))
  last_accepts d r m (IndexCreated n es) later = λ y. absurd (true≢false (sym y))
  last_accepts d r m (IndexDeleted n) later = λ y. absurd (true≢false (sym y))

  last_moves : (t : PosTable) (u : Uid) (x : Step) (later : History) → moves t u x ≡ true
      → list_any (moves t u) later ≡ false → list_any (moves t u) (left s (later_in later) x) ≡ true
  last_moves t u (Accepted d a trans moved) later y none =
      elim (has_rev (s.document d).members a.rev && not (list_any (accepts_rev d a.rev) later)) as
      (λ k. list_any (moves t u)
      (cond k (Accepted d (marked_by (s.document d).current a) trans moved ∷ []) (Gone d trans moved ∷ [])) ≡ true) [
        | true ↦ ap (λ b. b || false) y
        | false ↦ ap (λ b. b || false) y
      ]
  last_moves t u (Gone d trans moved) later y none = ap (λ b. b || false) y
  last_moves t u (Moved m) later y none =
      elim (same_table t m.table && same_id u m.uid) as
      (λ b. (same_table t m.table && same_id u m.uid) ≡ b → not (is_empty (cond b (Some m.at ∷ []) [])) ≡ true
      → list_any (moves t u) (left s (later_in later) (Moved m)) ≡ true) [
        | true ↦ λ q _.
            let p = and_parts (same_table t m.table) (same_id u m.uid) q in
            ap (λ b. list_any (moves t u) (cond b [] (Moved m ∷ [])))
            (sym (λ i. list_any (moves (table_tied t m.table p.0 i) (same_id_is u m.uid p.1 i)) later) ∙ none)
            ∙ ap (λ b. b || false) y
        | false ↦ λ _ k. absurd (true≢false (sym k))
      ] refl y
  last_moves t u (IndexCreated n es) later y none = absurd (true≢false (sym y))
  last_moves t u (IndexDeleted n) later y none = absurd (true≢false (sym y))

  last_creates : (n : Text) → is_some (s.index n) ≡ true → (x : Step) (later : History) → creates n x ≡ true
      → list_any (creates n) later ≡ false → list_any (creates n) (left s (later_in later) x) ≡ true
  last_creates n there (Accepted d a trans moved) later y none = absurd (true≢false (sym y))
  last_creates n there (Gone d trans moved) later y none = absurd (true≢false (sym y))
  last_creates n there (Moved m) later y none = absurd (true≢false (sym y))
  last_creates n there (IndexCreated k es) later y none =
      subst (λ (j : Text). list_any (creates n) (left s (later_in later) (IndexCreated j es)) ≡ true) (same_id_is n k y)
      (ap (λ b. list_any (creates n) (cond b (IndexCreated n es ∷ []) [])) (ap₂ (λ x z. x && not z) there none)
      ∙ ap (λ b. b || false) (same_id-itself n))
  last_creates n there (IndexDeleted k) later y none = absurd (true≢false (sym y))

  -- where the state has it, the two lists tell the same
  pub only : (a b c : Bool) → (a ≡ true → b ≡ c) → (a && not b) ≡ (a && not c)
  only true b c h = ap not (h refl)
  only false b c h = refl

  pub left_same : (x : Step) (later : History) → left s (later_in (compacted s later)) x ≡ left s (later_in later) x
  left_same (Accepted d a trans moved) later =
      ap (λ b. cond b (Accepted d (marked_by (s.document d).current a) trans moved ∷ []) (Gone d trans moved ∷ []))
      (only (has_rev (s.document d).members a.rev) _ _
      (λ m. same_truth _ _ (any_left s (accepts_rev d a.rev) (left_accepts s d a.rev) later)
      (stays (accepts_rev d a.rev) (last_accepts d a.rev m) later)))
  left_same (Gone d trans moved) later = refl
  left_same (Moved m) later =
      ap (λ b. cond b [] (Moved m ∷ []))
      (same_truth _ _ (any_left s (moves m.table m.uid) (left_moves s m.table m.uid) later)
      (stays (moves m.table m.uid) (last_moves m.table m.uid) later))
  left_same (IndexCreated n es) later =
      ap (λ b. cond b (IndexCreated n es ∷ []) [])
      (only (is_some (s.index n)) _ _
      (λ m. same_truth _ _ (any_left s (creates n) (left_creates s n) later)
      (stays (creates n) (last_creates n m) later)))
  left_same (IndexDeleted n) later = refl

  -- ---- steps that are trimmed

  abbrev trim : Step → List Step
  trim x = left s nothing_later x

  -- they do what the steps do, where each does it by itself
  any_trimmed : (p : Step → Bool) → ((l : Later) (x : Step) → list_any p (left s l x) ≡ true → p x ≡ true)
      → ((x : Step) (later : History) → p x ≡ true → list_any p later ≡ false
      → list_any p (left s (later_in later) x) ≡ true) → (xs : History) → list_any p (flat_map trim xs) ≡ list_any p xs
  any_trimmed p does last [] = refl
  any_trimmed p does last (x ∷ later) =
      list_any-append p (trim x) (flat_map trim later)
      ∙ ap₂ (λ a b. a || b) (same_truth _ _ (does nothing_later x) (λ y. last x [] y refl))
      (any_trimmed p does last later)

  trim_step : (x : Step) (later : History) → compacted s (flat_map trim later) ≡ compacted s later
      → compacted s (trim x ++ flat_map trim later) ≡ compacted s (x ∷ later)
  trim_step (Accepted d a trans moved) later ih =
      elim (has_rev (s.document d).members a.rev) as
      (λ b. has_rev (s.document d).members a.rev ≡ b
      → compacted s (cond (b && true) (Accepted d (marked_by (s.document d).current a) trans moved ∷ [])
      (Gone d trans moved ∷ []) ++ flat_map trim later)
      ≡ cond (b && not (list_any (accepts_rev d a.rev) later))
      (Accepted d (marked_by (s.document d).current a) trans moved ∷ []) (Gone d trans moved ∷ [])
      ++ compacted s later) [
        | true ↦ λ e. ap₂ (λ k rest. cond k (Accepted d (marked_by (s.document d).current a) trans moved ∷ [])
            (Gone d trans moved ∷ []) ++ rest)
            (ap₂ (λ x y. x && not y) e
            (any_trimmed (accepts_rev d a.rev) (left_accepts s d a.rev) (last_accepts d a.rev e) later)) ih
        | false ↦ λ _. ap (λ rest. Gone d trans moved ∷ rest) ih
      ] refl
  trim_step (Gone d trans moved) later ih = ap (λ rest. Gone d trans moved ∷ rest) ih
  trim_step (Moved m) later ih =
      ap₂ (λ b rest. cond b [] (Moved m ∷ []) ++ rest)
      (any_trimmed (moves m.table m.uid) (left_moves s m.table m.uid) (last_moves m.table m.uid) later) ih
  trim_step (IndexCreated n es) later ih =
      elim (is_some (s.index n)) as (λ b. is_some (s.index n) ≡ b
      → compacted s (cond (b && true) (IndexCreated n es ∷ []) [] ++ flat_map trim later)
      ≡ cond (b && not (list_any (creates n) later)) (IndexCreated n es ∷ []) [] ++ compacted s later) [
        | true ↦ λ e. ap₂ (λ k rest. cond k (IndexCreated n es ∷ []) [] ++ rest)
            (ap₂ (λ x y. x && not y) e (any_trimmed (creates n) (left_creates s n) (last_creates n e) later)) ih
        | false ↦ λ _. ih
      ] refl
  trim_step (IndexDeleted n) later ih = ih

  pub compacted-trimmed : (xs : History) → compacted s (trimmed s xs) ≡ compacted s xs
  compacted-trimmed [] = refl
  compacted-trimmed (x ∷ later) = trim_step x later (compacted-trimmed later)
