-- Each part of the state is the same of a compaction as of the history.
use Rattle.std.specs.Prelude.{◌≡◌, Bool, true, false, cond, not, ◌&&◌, ◌||◌, ◌⊎◌, List, [], ◌∷◌, ◌++◌, is_some, Option}
use Rattle.std.specs.Prelude.{Some, None, refl}
use Rattle.std.specs.List.{flat_map, list_any}
use Rattle.std.proofs.Common.{sym, ◌∙◌, ap, ap₂, subst, inl, inr, true≢false}
use Rattle.std.proofs.lemmas.Bool.{and_parts}
use Rattle.std.proofs.lemmas.List.Folds.{list_any-append}
use Rattle.u1_base.specs.Ids.{same_id}
use Rattle.u1_base.specs.Places.{Place}
use Rattle.u1_base.proofs.SameIds.{same_id-itself, same_id_is}
use Rattle.vector_rev.specs.Counts.{Uid}
use Rattle.vector_rev.specs.Compare.{same}
use Rattle.conflicts.specs.Lists.{is_empty, last_or}
use Rattle.conflicts.specs.Document.{has_rev}
use Rattle.conflicts.specs.State.{Text, Step, Accepted, Gone, Moved, IndexCreated, IndexDeleted, History, State}
use Rattle.conflicts.specs.State.{same_table, accepts_in, entries_in, positions_by, positions_in, indexes_in}
use Rattle.conflicts.specs.declared.accept.Accept.{Accept}
use Rattle.conflicts.specs.declared.moves.Move.{Move}
use Rattle.conflicts.specs.declared.moves.PosTable.{PosTable}
use Rattle.conflicts.specs.declared.moves.PosTable.TheVariants.{Known, Told}
use Rattle.compaction.specs.Compaction.{accepts_rev, moves, creates, marked_by, compacted}
use Rattle.compaction.specs.Law.{creation_of}
use Rattle.compaction.proofs.Kept.{kept_of}

none_is_not : {A : Type 0} (a : A) → ◌≡◌ {A = Option A} None (Some a) → ⊥
none_is_not a e = true≢false (sym (ap (λ o. is_some o) e))

any_flat_map : {X A : Type 0} (p : A → Bool) (f : X → List A) (xs : List X)
    → list_any (λ x. list_any p (f x)) xs ≡ list_any p (flat_map f xs)
any_flat_map p f [] = refl
any_flat_map p f (x ∷ xs) = ap (λ b. list_any p (f x) || b) (any_flat_map p f xs)
    ∙ sym (list_any-append p (f x) (flat_map f xs))

last_or-append : {A : Type 0} (a : A) (xs ys : List A) → last_or a (xs ++ ys) ≡ last_or (last_or a xs) ys
last_or-append a [] ys = refl
last_or-append a (x ∷ xs) ys = last_or-append x xs ys

is_empty-append : {A : Type 0} (xs ys : List A) → not (is_empty (xs ++ ys)) ≡ (not (is_empty xs) || not (is_empty ys))
is_empty-append [] ys = refl
is_empty-append (x ∷ xs) ys = refl

some_in : {X A : Type 0} (f : X → List A) (xs : List X)
    → list_any (λ x. not (is_empty (f x))) xs ≡ not (is_empty (flat_map f xs))
some_in f [] = refl
some_in f (x ∷ xs) = ap (λ b. not (is_empty (f x)) || b) (some_in f xs) ∙ sym (is_empty-append (f x) (flat_map f xs))

any_last : {A : Type 0} (a b : A) (xs : List A) → not (is_empty xs) ≡ true → last_or a xs ≡ last_or b xs
any_last a b [] e = absurd (true≢false (sym e))
any_last a b (x ∷ xs) e = refl

pub table_tied : (t v : PosTable) → same_table t v ≡ true → t ≡ v
table_tied Known Known e = refl
table_tied Known Told e = absurd (true≢false (sym e))
table_tied Told Known e = absurd (true≢false (sym e))
table_tied Told Told e = refl

module _ (s : State) where
  -- ---- the documents

  accepts_here : (d : Text) (a : Accept) (trans : Text) (moved : Option Move) (later : History)
      → flat_map (accepts_in d) (compacted s later)
      ≡ kept_of (s.document d).members (s.document d).current (flat_map (accepts_in d) later) →
      flat_map (accepts_in d) (compacted s (Accepted d a trans moved ∷ later))
      ≡ kept_of (s.document d).members (s.document d).current (a ∷ flat_map (accepts_in d) later)
  accepts_here d a trans moved later ih =
      let ms = (s.document d).members in
      let c = (s.document d).current in
      let L = flat_map (accepts_in d) later in
      elim (has_rev ms a.rev && not (list_any (accepts_rev d a.rev) later)) as
      (λ k. flat_map (accepts_in d) (cond k (Accepted d (marked_by c a) trans moved ∷ []) (Gone d trans moved ∷ [])
      ++ compacted s later) ≡ cond k (marked_by c a ∷ kept_of ms c L) (kept_of ms c L)) [
        | true ↦ ap₂ (λ b r. cond b (marked_by c a ∷ []) [] ++ r) (same_id-itself d) ih
        | false ↦ ih
      ]
      ∙ ap (λ b. cond (has_rev ms a.rev && not b) (marked_by c a ∷ kept_of ms c L) (kept_of ms c L))
      (any_flat_map (λ (z : Accept). same z.rev a.rev) (accepts_in d) later)

  accepts_step : (d : Text) (x : Step) (later : History)
      → flat_map (accepts_in d) (compacted s later)
      ≡ kept_of (s.document d).members (s.document d).current (flat_map (accepts_in d) later) →
      flat_map (accepts_in d) (compacted s (x ∷ later))
      ≡ kept_of (s.document d).members (s.document d).current (flat_map (accepts_in d) (x ∷ later))
  accepts_step d (Accepted e a trans moved) later ih =
      elim (same_id d e) as (λ b. same_id d e ≡ b
      → flat_map (accepts_in d) (compacted s (Accepted e a trans moved ∷ later))
      ≡ kept_of (s.document d).members (s.document d).current (cond b (a ∷ []) [] ++ flat_map (accepts_in d) later)) [
        | true ↦ λ q. subst (λ (k : Text). flat_map (accepts_in d) (compacted s (Accepted k a trans moved ∷ later))
            ≡ kept_of (s.document d).members (s.document d).current (a ∷ flat_map (accepts_in d) later))
            (same_id_is d e q) (accepts_here d a trans moved later ih)
        | false ↦ λ q.
            elim (has_rev (s.document e).members a.rev && not (list_any (accepts_rev e a.rev) later)) as
            (λ k. flat_map (accepts_in d)
            (cond k (Accepted e (marked_by (s.document e).current a) trans moved ∷ []) (Gone e trans moved ∷ [])
            ++ compacted s later) ≡ kept_of (s.document d).members (s.document d).current
            (flat_map (accepts_in d) later)) [
              | true ↦ ap (λ b. cond b (marked_by (s.document e).current a ∷ []) []
                  ++ flat_map (accepts_in d) (compacted s later)) q ∙ ih
              | false ↦ ih
            ]
      ] refl
  accepts_step d (Gone e trans moved) later ih = ih
  accepts_step d (Moved m) later ih =
      elim (list_any (moves m.table m.uid) later) as
      (λ b. flat_map (accepts_in d) (cond b [] (Moved m ∷ []) ++ compacted s later)
      ≡ kept_of (s.document d).members (s.document d).current (flat_map (accepts_in d) later)) [
        | true ↦ ih
        | false ↦ ih
      ]
  accepts_step d (IndexCreated n es) later ih =
      elim (is_some (s.index n) && not (list_any (creates n) later)) as
      (λ b. flat_map (accepts_in d) (cond b (IndexCreated n es ∷ []) [] ++ compacted s later)
      ≡ kept_of (s.document d).members (s.document d).current (flat_map (accepts_in d) later)) [
        | true ↦ ih
        | false ↦ ih
      ]
  accepts_step d (IndexDeleted n) later ih = ih

  pub accepts_left : (d : Text) (xs : History)
      → flat_map (accepts_in d) (compacted s xs) ≡ kept_of (s.document d).members (s.document d).current
      (flat_map (accepts_in d) xs)
  accepts_left d [] = refl
  accepts_left d (x ∷ later) = accepts_step d x later (accepts_left d later)

  -- ---- the log

  pub entries_left : (xs : History) → flat_map entries_in (compacted s xs) ≡ flat_map entries_in xs
  entries_left [] = refl
  entries_left (Accepted d a trans moved ∷ later) =
      elim (has_rev (s.document d).members a.rev && not (list_any (accepts_rev d a.rev) later)) as
      (λ k. flat_map entries_in
      (cond k (Accepted d (marked_by (s.document d).current a) trans moved ∷ []) (Gone d trans moved ∷ [])
      ++ compacted s later) ≡ record { doc = d; trans = trans } ∷ flat_map entries_in later) [
        | true ↦ ap (λ r. record { doc = d; trans = trans } ∷ r) (entries_left later)
        | false ↦ ap (λ r. record { doc = d; trans = trans } ∷ r) (entries_left later)
      ]
  entries_left (Gone d trans moved ∷ later) = ap (λ r. record { doc = d; trans = trans } ∷ r) (entries_left later)
  entries_left (Moved m ∷ later) =
      elim (list_any (moves m.table m.uid) later) as
      (λ b. flat_map entries_in (cond b [] (Moved m ∷ []) ++ compacted s later) ≡ flat_map entries_in later) [
        | true ↦ entries_left later
        | false ↦ entries_left later
      ]
  entries_left (IndexCreated n es ∷ later) =
      elim (is_some (s.index n) && not (list_any (creates n) later)) as
      (λ b. flat_map entries_in (cond b (IndexCreated n es ∷ []) [] ++ compacted s later) ≡ flat_map entries_in later) [
        | true ↦ entries_left later
        | false ↦ entries_left later
      ]
  entries_left (IndexDeleted n ∷ later) = entries_left later

  -- ---- the positions

  positions_behind : (t : PosTable) (u : Uid) (later : History)
      → ((q : Option Place) → last_or q (flat_map (positions_in t u) (compacted s later))
      ≡ last_or q (flat_map (positions_in t u) later)) →
      (p : Option Place) (o : Option Move)
      → last_or p (positions_by t u o ++ flat_map (positions_in t u) (compacted s later))
      ≡ last_or p (positions_by t u o ++ flat_map (positions_in t u) later)
  positions_behind t u later ih p o =
      last_or-append p (positions_by t u o) _ ∙ ih (last_or p (positions_by t u o))
      ∙ sym (last_or-append p (positions_by t u o) _)

  -- a move that a later step repeats
  repeated : (t : PosTable) (u : Uid) (later : History) (p : Option Place) (m : Move)
      → list_any (moves m.table m.uid) later ≡ true
      → last_or p (flat_map (positions_in t u) later)
      ≡ last_or p (positions_by t u (Some m) ++ flat_map (positions_in t u) later)
  repeated t u later p m more =
      elim (same_table t m.table && same_id u m.uid) as
      (λ b. (same_table t m.table && same_id u m.uid) ≡ b
      → last_or p (flat_map (positions_in t u) later)
      ≡ last_or p (cond b (Some m.at ∷ []) [] ++ flat_map (positions_in t u) later)) [
        | true ↦ λ e.
            let q = and_parts (same_table t m.table) (same_id u m.uid) e in
            any_last p (Some m.at) (flat_map (positions_in t u) later)
            (sym (some_in (positions_in t u) later)
            ∙ (λ i. list_any (moves (table_tied t m.table q.0 i) (same_id_is u m.uid q.1 i)) later)
            ∙ more)
        | false ↦ λ _. refl
      ] refl

  positions_step : (t : PosTable) (u : Uid) (x : Step) (later : History)
      → ((q : Option Place) → last_or q (flat_map (positions_in t u) (compacted s later))
      ≡ last_or q (flat_map (positions_in t u) later)) →
      (p : Option Place) → last_or p (flat_map (positions_in t u) (compacted s (x ∷ later)))
      ≡ last_or p (flat_map (positions_in t u) (x ∷ later))
  positions_step t u (Accepted d a trans moved) later ih p =
      elim (has_rev (s.document d).members a.rev && not (list_any (accepts_rev d a.rev) later)) as
      (λ k. last_or p (flat_map (positions_in t u)
      (cond k (Accepted d (marked_by (s.document d).current a) trans moved ∷ []) (Gone d trans moved ∷ [])
      ++ compacted s later)) ≡ last_or p (positions_by t u moved ++ flat_map (positions_in t u) later)) [
        | true ↦ positions_behind t u later ih p moved
        | false ↦ positions_behind t u later ih p moved
      ]
  positions_step t u (Gone d trans moved) later ih p = positions_behind t u later ih p moved
  positions_step t u (Moved m) later ih p =
      elim (list_any (moves m.table m.uid) later) as
      (λ b. list_any (moves m.table m.uid) later ≡ b
      → last_or p (flat_map (positions_in t u) (cond b [] (Moved m ∷ []) ++ compacted s later))
      ≡ last_or p (positions_by t u (Some m) ++ flat_map (positions_in t u) later)) [
        | true ↦ λ e. ih p ∙ repeated t u later p m e
        | false ↦ λ _. positions_behind t u later ih p (Some m)
      ] refl
  positions_step t u (IndexCreated n es) later ih p =
      elim (is_some (s.index n) && not (list_any (creates n) later)) as
      (λ b. last_or p (flat_map (positions_in t u) (cond b (IndexCreated n es ∷ []) [] ++ compacted s later))
      ≡ last_or p (flat_map (positions_in t u) later)) [
        | true ↦ ih p
        | false ↦ ih p
      ]
  positions_step t u (IndexDeleted n) later ih p = ih p

  pub positions_left : (t : PosTable) (u : Uid) (xs : History) (p : Option Place)
      → last_or p (flat_map (positions_in t u) (compacted s xs)) ≡ last_or p (flat_map (positions_in t u) xs)
  positions_left t u [] p = refl
  positions_left t u (x ∷ later) p = positions_step t u x later (positions_left t u later) p

  -- ---- the indexes

  -- steps that create no index of the name leave what was there, or none
  none_created : (n : Text) (xs : History) (p : Option (List Text)) → list_any (creates n) xs ≡ false
      → (last_or p (flat_map (indexes_in n) xs) ≡ p) ⊎ (last_or p (flat_map (indexes_in n) xs) ≡ None)
  none_created n [] p e = inl refl
  none_created n (Accepted d a trans moved ∷ later) p e = none_created n later p e
  none_created n (Gone d trans moved ∷ later) p e = none_created n later p e
  none_created n (Moved m ∷ later) p e = none_created n later p e
  none_created n (IndexCreated k es ∷ later) p e =
      elim (same_id n k) as (λ b. (b || list_any (creates n) later) ≡ false
      → (last_or p (cond b (Some es ∷ []) [] ++ flat_map (indexes_in n) later) ≡ p)
      ⊎ (last_or p (cond b (Some es ∷ []) [] ++ flat_map (indexes_in n) later) ≡ None)) [
        | true ↦ λ q. absurd (true≢false q)
        | false ↦ λ q. none_created n later p q
      ] e
  none_created n (IndexDeleted k ∷ later) p e =
      elim (same_id n k) as (λ b. (last_or p (cond b (None ∷ []) [] ++ flat_map (indexes_in n) later) ≡ p)
      ⊎ (last_or p (cond b (None ∷ []) [] ++ flat_map (indexes_in n) later) ≡ None)) [
        | true ↦ elim (none_created n later None e) [ inl q ↦ inr q | inr q ↦ inr q ]
        | false ↦ none_created n later p e
      ]

  -- an index that is not there at the end leaves no step
  index_gone : (n : Text) → s.index n ≡ None → (xs : History) → flat_map (indexes_in n) (compacted s xs) ≡ []
  index_gone n none [] = refl
  index_gone n none (Accepted d a trans moved ∷ later) =
      elim (has_rev (s.document d).members a.rev && not (list_any (accepts_rev d a.rev) later)) as
      (λ k. flat_map (indexes_in n)
      (cond k (Accepted d (marked_by (s.document d).current a) trans moved ∷ []) (Gone d trans moved ∷ [])
      ++ compacted s later) ≡ []) [
        | true ↦ index_gone n none later
        | false ↦ index_gone n none later
      ]
  index_gone n none (Gone d trans moved ∷ later) = index_gone n none later
  index_gone n none (Moved m ∷ later) =
      elim (list_any (moves m.table m.uid) later) as
      (λ b. flat_map (indexes_in n) (cond b [] (Moved m ∷ []) ++ compacted s later) ≡ []) [
        | true ↦ index_gone n none later
        | false ↦ index_gone n none later
      ]
  index_gone n none (IndexCreated k es ∷ later) =
      elim (same_id n k) as (λ b. same_id n k ≡ b
      → flat_map (indexes_in n) (compacted s (IndexCreated k es ∷ later)) ≡ []) [
        | true ↦ λ q. subst (λ (j : Text). flat_map (indexes_in n) (compacted s (IndexCreated j es ∷ later)) ≡ [])
            (same_id_is n k q)
            (ap (λ o. flat_map (indexes_in n)
            (cond (is_some o && not (list_any (creates n) later)) (IndexCreated n es ∷ []) [] ++ compacted s later))
            none ∙ index_gone n none later)
        | false ↦ λ q.
            elim (is_some (s.index k) && not (list_any (creates k) later)) as
            (λ b. flat_map (indexes_in n) (cond b (IndexCreated k es ∷ []) [] ++ compacted s later) ≡ []) [
              | true ↦ ap (λ b. cond b (Some es ∷ []) [] ++ flat_map (indexes_in n) (compacted s later)) q
                  ∙ index_gone n none later
              | false ↦ index_gone n none later
            ]
      ] refl
  index_gone n none (IndexDeleted k ∷ later) = index_gone n none later

  -- the last creation of an index that is there
  created_here : (n : Text) (fs es : List Text) → s.index n ≡ Some fs → (later : History)
      → flat_map (indexes_in n) (compacted s later) ≡ cond (list_any (creates n) later) (Some fs ∷ []) []
      → last_or (Some es) (flat_map (indexes_in n) later) ≡ Some fs →
      flat_map (indexes_in n) (compacted s (IndexCreated n es ∷ later)) ≡ Some fs ∷ []
  created_here n fs es there later ih r =
      ap (λ o. flat_map (indexes_in n)
      (cond (is_some o && not (list_any (creates n) later)) (IndexCreated n es ∷ []) [] ++ compacted s later)) there
      ∙ elim (list_any (creates n) later) as (λ b. list_any (creates n) later ≡ b
      → flat_map (indexes_in n) (compacted s later) ≡ cond b (Some fs ∷ []) []
      → flat_map (indexes_in n) (cond (true && not b) (IndexCreated n es ∷ []) [] ++ compacted s later)
      ≡ Some fs ∷ []) [
        | true ↦ λ _ g. g
        | false ↦ λ q g.
            ap₂ (λ b rest. cond b (Some es ∷ []) [] ++ rest) (same_id-itself n) g
            ∙ ap (λ o. o ∷ []) (elim (none_created n later (Some es) q) [
              | inl l ↦ sym l ∙ r
              | inr l ↦ absurd (none_is_not fs (sym l ∙ r))
            ])
      ] refl ih

  -- one that is there leaves its last creation
  index_left : (n : Text) (fs : List Text) → s.index n ≡ Some fs → (xs : History) (p : Option (List Text))
      → last_or p (flat_map (indexes_in n) xs) ≡ Some fs
      → flat_map (indexes_in n) (compacted s xs) ≡ cond (list_any (creates n) xs) (Some fs ∷ []) []
  index_left n fs there [] p e = refl
  index_left n fs there (Accepted d a trans moved ∷ later) p e =
      elim (has_rev (s.document d).members a.rev && not (list_any (accepts_rev d a.rev) later)) as
      (λ k. flat_map (indexes_in n)
      (cond k (Accepted d (marked_by (s.document d).current a) trans moved ∷ []) (Gone d trans moved ∷ [])
      ++ compacted s later) ≡ cond (list_any (creates n) later) (Some fs ∷ []) []) [
        | true ↦ index_left n fs there later p e
        | false ↦ index_left n fs there later p e
      ]
  index_left n fs there (Gone d trans moved ∷ later) p e = index_left n fs there later p e
  index_left n fs there (Moved m ∷ later) p e =
      elim (list_any (moves m.table m.uid) later) as
      (λ b. flat_map (indexes_in n) (cond b [] (Moved m ∷ []) ++ compacted s later)
      ≡ cond (list_any (creates n) later) (Some fs ∷ []) []) [
        | true ↦ index_left n fs there later p e
        | false ↦ index_left n fs there later p e
      ]
  index_left n fs there (IndexCreated k es ∷ later) p e =
      elim (same_id n k) as (λ b. same_id n k ≡ b
      → last_or p (cond b (Some es ∷ []) [] ++ flat_map (indexes_in n) later) ≡ Some fs
      → flat_map (indexes_in n) (compacted s (IndexCreated k es ∷ later))
      ≡ cond (b || list_any (creates n) later) (Some fs ∷ []) []) [
        | true ↦ λ q r. subst (λ (j : Text). flat_map (indexes_in n) (compacted s (IndexCreated j es ∷ later))
            ≡ Some fs ∷ []) (same_id_is n k q)
            (created_here n fs es there later (index_left n fs there later (Some es) r) r)
        | false ↦ λ q r.
            elim (is_some (s.index k) && not (list_any (creates k) later)) as
            (λ b. flat_map (indexes_in n) (cond b (IndexCreated k es ∷ []) [] ++ compacted s later)
            ≡ cond (list_any (creates n) later) (Some fs ∷ []) []) [
              | true ↦ ap (λ b. cond b (Some es ∷ []) [] ++ flat_map (indexes_in n) (compacted s later)) q
                  ∙ index_left n fs there later p r
              | false ↦ index_left n fs there later p r
            ]
      ] refl e
  index_left n fs there (IndexDeleted k ∷ later) p e =
      elim (same_id n k) as (λ b. last_or p (cond b (None ∷ []) [] ++ flat_map (indexes_in n) later) ≡ Some fs
      → flat_map (indexes_in n) (compacted s later) ≡ cond (list_any (creates n) later) (Some fs ∷ []) []) [
        | true ↦ λ r. index_left n fs there later None r
        | false ↦ λ r. index_left n fs there later p r
      ] e

  -- just the creation of an index that is there is left
  pub index_created : (n : Text) (h : History) → s.index n ≡ last_or None (flat_map (indexes_in n) h)
      → flat_map (indexes_in n) (compacted s h) ≡ creation_of (last_or None (flat_map (indexes_in n) h))
  index_created n h is =
      elim (last_or None (flat_map (indexes_in n) h)) as
      (λ o. last_or None (flat_map (indexes_in n) h) ≡ o → flat_map (indexes_in n) (compacted s h) ≡ creation_of o) [
        | None ↦ λ e. index_gone n (is ∙ e) h
        | Some fs ↦ λ e.
            index_left n fs (is ∙ e) h None e
            ∙ elim (list_any (creates n) h) as (λ b. list_any (creates n) h ≡ b
            → cond b (Some fs ∷ []) [] ≡ Some fs ∷ []) [
              | true ↦ λ _. refl
              | false ↦ λ q. elim (none_created n h None q) [
                | inl r ↦ absurd (none_is_not fs (sym r ∙ e))
                | inr r ↦ absurd (none_is_not fs (sym r ∙ e))
              ]
            ] refl
      ] refl

  last_created : (o : Option (List Text)) → last_or None (creation_of o) ≡ o
  last_created None = refl
  last_created (Some es) = refl

  pub index_last : (n : Text) (h : History) → s.index n ≡ last_or None (flat_map (indexes_in n) h)
      → last_or None (flat_map (indexes_in n) (compacted s h)) ≡ last_or None (flat_map (indexes_in n) h)
  index_last n h is = ap (last_or None) (index_created n h is) ∙ last_created _
