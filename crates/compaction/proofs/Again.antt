-- A compaction leaves the state, is its own compaction, and has no more steps.
use Rattle.std.specs.Prelude.{◌≡◌, ◌≤◌, Bool, true, false, cond, not, ◌&&◌, ◌||◌, [], ◌∷◌, ◌++◌, length, is_some, None}
use Rattle.std.specs.Prelude.{refl}
use Rattle.std.specs.List.{flat_map, list_any}
use Rattle.std.proofs.Common.{sym, ◌∙◌, ap, ap₂, inl, inr, true≢false, arith}
use Rattle.std.proofs.lemmas.Bool.{and_parts, or_cases, or_left, or_right}
use Rattle.std.proofs.lemmas.List.Folds.{list_any-append}
use Rattle.u1_base.specs.Ids.{same_id}
use Rattle.u1_base.proofs.Booleans.{none_true, not_both, not_true}
use Rattle.vector_rev.specs.Counts.{Uid}
use Rattle.vector_rev.specs.Clock.{Clock}
use Rattle.vector_rev.specs.Compare.{same}
use Rattle.conflicts.specs.Lists.{is_empty}
use Rattle.conflicts.specs.Document.{has_rev, document_of}
use Rattle.conflicts.specs.State.{Text, Step, Accepted, Gone, Moved, IndexCreated, IndexDeleted, History, State}
use Rattle.conflicts.specs.State.{accepts_in, positions_by, state_of}
use Rattle.conflicts.specs.declared.accept.Accept.{Accept}
use Rattle.conflicts.specs.declared.moves.PosTable.{PosTable}
use Rattle.compaction.specs.Compaction.{accepts_rev, moves, creates, Later, later_in, marked_by, left, compacted}
use Rattle.compaction.specs.Compaction.{compaction}
use Rattle.compaction.proofs.Kept.{document_of-kept}
use Rattle.compaction.proofs.Parts.{accepts_left, entries_left, positions_left, index_last}

pub state_of-compaction : (name : Text) (uid : Uid) (h : History)
    → state_of name uid (compaction h) ≡ state_of name uid h
state_of-compaction name uid h =
    let s = state_of [] [] h in
    λ i. record {
      name = name;
      uid = uid;
      document = λ d. (ap document_of (accepts_left s d h) ∙ document_of-kept (flat_map (accepts_in d) h)) i;
      log = entries_left s h i;
      position = λ t u. positions_left s t u h None i;
      index = λ n. index_last s n h refl i;
    }

or_false : (b : Bool) → (b || false) ≡ true → b ≡ true
or_false true e = refl
or_false false e = e

-- ---- what the steps that are left speak of

pub left_accepts : (s : State) (d : Text) (r : Clock) (l : Later) (x : Step)
    → list_any (accepts_rev d r) (left s l x) ≡ true → accepts_rev d r x ≡ true
left_accepts s d r l (Accepted e a trans moved) =
    elim (has_rev (s.document e).members a.rev && not (l.accepted e a.rev)) as
    (λ k. list_any (accepts_rev d r)
    (cond k (Accepted e (marked_by (s.document e).current a) trans moved ∷ []) (Gone e trans moved ∷ [])) ≡ true
    → accepts_rev d r (Accepted e a trans moved) ≡ true) [
      | true ↦ elim (same_id d e) as
          (λ b. (list_any (λ (z : Accept). same z.rev r) (cond b (marked_by (s.document e).current a ∷ []) [])
          || false) ≡ true → list_any (λ (z : Accept). same z.rev r) (cond b (a ∷ []) []) ≡ true) [
            | true ↦ λ q. or_false _ q
            | false ↦ λ q. q
          ]
      | false ↦ λ q. absurd (true≢false (sym q))
    ]
left_accepts s d r l (Gone e trans moved) = λ q. absurd (true≢false (sym q))
left_accepts s d r l (Moved m) =
    elim (l.moved m.table m.uid) as (λ b. list_any (accepts_rev d r) (cond b [] (Moved m ∷ [])) ≡ true
    → false ≡ true) [ true ↦ λ q. q | false ↦ λ q. q ]
left_accepts s d r l (IndexCreated n es) =
    elim (is_some (s.index n) && not (l.created n)) as
    (λ b. list_any (accepts_rev d r) (cond b (IndexCreated n es ∷ []) []) ≡ true → false ≡ true) [
      | true ↦ λ q. q
      | false ↦ λ q. q
    ]
left_accepts s d r l (IndexDeleted n) = λ q. q

pub left_moves : (s : State) (t : PosTable) (u : Uid) (l : Later) (x : Step) → list_any (moves t u) (left s l x) ≡ true
    → moves t u x ≡ true
left_moves s t u l (Accepted e a trans moved) =
    elim (has_rev (s.document e).members a.rev && not (l.accepted e a.rev)) as
    (λ k. list_any (moves t u)
    (cond k (Accepted e (marked_by (s.document e).current a) trans moved ∷ []) (Gone e trans moved ∷ [])) ≡ true
    → not (is_empty (positions_by t u moved)) ≡ true) [
      | true ↦ or_false _
      | false ↦ or_false _
    ]
left_moves s t u l (Gone e trans moved) = or_false _
left_moves s t u l (Moved m) =
    elim (l.moved m.table m.uid) as (λ b. list_any (moves t u) (cond b [] (Moved m ∷ [])) ≡ true
    → moves t u (Moved m) ≡ true) [ true ↦ λ q. absurd (true≢false (sym q)) | false ↦ or_false _ ]
left_moves s t u l (IndexCreated n es) =
    elim (is_some (s.index n) && not (l.created n)) as
    (λ b. list_any (moves t u) (cond b (IndexCreated n es ∷ []) []) ≡ true → false ≡ true) [
      | true ↦ λ q. q
      | false ↦ λ q. q
    ]
left_moves s t u l (IndexDeleted n) = λ q. q

pub left_creates : (s : State) (n : Text) (l : Later) (x : Step) → list_any (creates n) (left s l x) ≡ true
    → creates n x ≡ true
left_creates s n l (Accepted e a trans moved) =
    elim (has_rev (s.document e).members a.rev && not (l.accepted e a.rev)) as
    (λ k. list_any (creates n)
    (cond k (Accepted e (marked_by (s.document e).current a) trans moved ∷ []) (Gone e trans moved ∷ [])) ≡ true
    → false ≡ true) [ true ↦ λ q. q | false ↦ λ q. q ]
left_creates s n l (Gone e trans moved) = λ q. q
left_creates s n l (Moved m) =
    elim (l.moved m.table m.uid) as (λ b. list_any (creates n) (cond b [] (Moved m ∷ [])) ≡ true
    → false ≡ true) [ true ↦ λ q. q | false ↦ λ q. q ]
left_creates s n l (IndexCreated k es) =
    elim (is_some (s.index k) && not (l.created k)) as
    (λ b. list_any (creates n) (cond b (IndexCreated k es ∷ []) []) ≡ true → same_id n k ≡ true) [
      | true ↦ or_false _
      | false ↦ λ q. absurd (true≢false (sym q))
    ]
left_creates s n l (IndexDeleted k) = λ q. q

pub any_left : (s : State) (p : Step → Bool) → ((l : Later) (x : Step) → list_any p (left s l x) ≡ true → p x ≡ true)
    → (xs : History) → list_any p (compacted s xs) ≡ true → list_any p xs ≡ true
any_left s p does [] e = e
any_left s p does (x ∷ later) e =
    elim (or_cases (list_any p (left s (later_in later) x)) (list_any p (compacted s later))
    (sym (list_any-append p (left s (later_in later) x) (compacted s later)) ∙ e)) [
      | inl q ↦ or_left (p x) (list_any p later) (does (later_in later) x q)
      | inr q ↦ or_right (p x) (list_any p later) (any_left s p does later q)
    ]

none_left : (s : State) (p : Step → Bool) → ((l : Later) (x : Step) → list_any p (left s l x) ≡ true → p x ≡ true)
    → (xs : History) → list_any p xs ≡ false → list_any p (compacted s xs) ≡ false
none_left s p does xs e = none_true _ (λ q. not_both _ (any_left s p does xs q) e)

-- ---- it is its own compaction

again_step : (s : State) (x : Step) (later : History) → compacted s (compacted s later) ≡ compacted s later
    → compacted s (compacted s (x ∷ later)) ≡ compacted s (x ∷ later)
again_step s (Accepted d a trans moved) later ih =
    let m = marked_by (s.document d).current a in
    elim (has_rev (s.document d).members a.rev && not (list_any (accepts_rev d a.rev) later)) as
    (λ k. (has_rev (s.document d).members a.rev && not (list_any (accepts_rev d a.rev) later)) ≡ k
    → compacted s (cond k (Accepted d m trans moved ∷ []) (Gone d trans moved ∷ []) ++ compacted s later)
    ≡ cond k (Accepted d m trans moved ∷ []) (Gone d trans moved ∷ []) ++ compacted s later) [
      | true ↦ λ e.
          let q = and_parts (has_rev (s.document d).members a.rev) _ e in
          ap₂ (λ b rest. cond b (Accepted d m trans moved ∷ []) (Gone d trans moved ∷ []) ++ rest)
          (ap₂ (λ x y. x && not y) q.0
          (none_left s (accepts_rev d a.rev) (left_accepts s d a.rev) later (not_true _ q.1))) ih
      | false ↦ λ _. ap (λ rest. Gone d trans moved ∷ rest) ih
    ] refl
again_step s (Gone d trans moved) later ih = ap (λ rest. Gone d trans moved ∷ rest) ih
again_step s (Moved m) later ih =
    elim (list_any (moves m.table m.uid) later) as
    (λ b. list_any (moves m.table m.uid) later ≡ b
    → compacted s (cond b [] (Moved m ∷ []) ++ compacted s later) ≡ cond b [] (Moved m ∷ []) ++ compacted s later) [
      | true ↦ λ _. ih
      | false ↦ λ e. ap₂ (λ b rest. cond b [] (Moved m ∷ []) ++ rest)
          (none_left s (moves m.table m.uid) (left_moves s m.table m.uid) later e) ih
    ] refl
again_step s (IndexCreated n es) later ih =
    elim (is_some (s.index n) && not (list_any (creates n) later)) as
    (λ b. (is_some (s.index n) && not (list_any (creates n) later)) ≡ b
    → compacted s (cond b (IndexCreated n es ∷ []) [] ++ compacted s later) ≡ cond b (IndexCreated n es ∷ []) []
    ++ compacted s later) [
      | true ↦ λ e.
          let q = and_parts (is_some (s.index n)) _ e in
          ap₂ (λ b rest. cond b (IndexCreated n es ∷ []) [] ++ rest)
          (ap₂ (λ x y. x && not y) q.0 (none_left s (creates n) (left_creates s n) later (not_true _ q.1))) ih
      | false ↦ λ _. ih
    ] refl
again_step s (IndexDeleted n) later ih = ih

compacted-again : (s : State) (xs : History) → compacted s (compacted s xs) ≡ compacted s xs
compacted-again s [] = refl
compacted-again s (x ∷ later) = again_step s x later (compacted-again s later)

pub compaction-again : (h : History) → compaction (compaction h) ≡ compaction h
compaction-again h = ap (λ s. compacted s (compaction h)) (state_of-compaction [] [] h)
    ∙ compacted-again (state_of [] [] h) h

-- ---- it is never longer

shorter_step : (s : State) (x : Step) (later : History) → length (compacted s later) ≤ length later
    → length (compacted s (x ∷ later)) ≤ length (x ∷ later)
shorter_step s (Accepted d a trans moved) later ih =
    elim (has_rev (s.document d).members a.rev && not (list_any (accepts_rev d a.rev) later)) as
    (λ k. length (cond k (Accepted d (marked_by (s.document d).current a) trans moved ∷ []) (Gone d trans moved ∷ [])
    ++ compacted s later) ≤ length (Accepted d a trans moved ∷ later)) [
      | true ↦ omega arith
      | false ↦ omega arith
    ]
shorter_step s (Gone d trans moved) later ih = omega arith
shorter_step s (Moved m) later ih =
    elim (list_any (moves m.table m.uid) later) as
    (λ b. length (cond b [] (Moved m ∷ []) ++ compacted s later) ≤ length (Moved m ∷ later)) [
      | true ↦ omega arith
      | false ↦ omega arith
    ]
shorter_step s (IndexCreated n es) later ih =
    elim (is_some (s.index n) && not (list_any (creates n) later)) as
    (λ b. length (cond b (IndexCreated n es ∷ []) [] ++ compacted s later) ≤ length (IndexCreated n es ∷ later)) [
      | true ↦ omega arith
      | false ↦ omega arith
    ]
shorter_step s (IndexDeleted n) later ih = omega arith

pub compacted-shorter : (s : State) (xs : History) → length (compacted s xs) ≤ length xs
compacted-shorter s [] = omega arith
compacted-shorter s (x ∷ later) = shorter_step s x later (compacted-shorter s later)

-- ---- the name and the uid do not count
same_step : (name : Text) (uid : Uid) (h : History) (l : Later) (x : Step)
    → left (state_of name uid h) l x ≡ left (state_of [] [] h) l x
same_step name uid h l (Accepted d a trans moved) = refl
same_step name uid h l (Gone d trans moved) = refl
same_step name uid h l (Moved m) = refl
same_step name uid h l (IndexCreated n es) = refl
same_step name uid h l (IndexDeleted n) = refl

pub same_compacted : (name : Text) (uid : Uid) (h xs : History)
    → compacted (state_of name uid h) xs ≡ compacted (state_of [] [] h) xs
same_compacted name uid h [] = refl
same_compacted name uid h (x ∷ xs) = ap₂ (λ (a b : History). a ++ b) (same_step name uid h (later_in xs) x)
    (same_compacted name uid h xs)
