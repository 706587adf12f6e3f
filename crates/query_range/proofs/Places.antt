-- What an id that comes makes of the ids that were found.
use Rattle.std.proofs.Common.{◌≡◌, ◌≢◌, ℕ, ◌+◌, ◌<◌, ◌%◌, Bool, true, false, cond, not, ◌||◌, List, [], ◌∷◌, ◌++◌}
use Rattle.std.proofs.Common.{length, map, get_or, set, take, zero, suc, refl, sym, subst, ◌∙◌, ap, ap₂, inl, inr, Bor}
use Rattle.std.proofs.Common.{Option, Some, None}
use Rattle.std.proofs.lemmas.Bool.{cases_eq}
use Rattle.std.proofs.lemmas.List.{get_or_read, get_or-set_other, get_or-set_same, length-set, map-append, take_more}
use Rattle.std.proofs.lemmas.List.Folds.{list_any-append}
use Rattle.std.specs.BTreeSet.{BTreeSet, Updates, contains}
use Rattle.std.specs.List.{list_any}
use Rattle.std.specs.Prelude.{is_some, replicate, Result, Ok, Err, OnOk, OnErr}
use Rattle.u1_base.specs.Ids.{id_cmp, same_id}
use Rattle.u1_base.proofs.Booleans.{none_true, not_both}
use Rattle.u1_base.proofs.SameIds.{is_same_id, same_id-comm, same_id_is}
use Rattle.query_range.specs.Answers.{firsts}
use Rattle.query_range.specs.SeenIds.{AreBehind, Places, mark, owner, text_cmp}
use Rattle.query_range.specs.inner.SeenIds.{holds, is_held}
use Rattle.query_range.proofs.Firsts.{firsts-push}

abbrev Text : Type 0
Text = Bor (List ℕ)

module _ (places : Places) (others : BTreeSet Text) (id : Text) where
  -- ids that are the same have one place
  same_owner : (other : Text) → same_id id.now other.now ≡ true → owner places other.now ≡ owner places id.now
  same_owner other e = ap (owner places) (sym (same_id_is id.now other.now e))

  module _ (at : ℕ) (at_is : at ≡ mark id.now % length places) (lt : at < length places) where
    pub owner_is : (item : Option Text) → item ≡ get_or places at item → owner places id.now ≡ item
    owner_is item is = subst (λ (k : ℕ). get_or places k None ≡ item) at_is
        (sym (get_or_read places at item lt is None))

    -- ---- its place is free

    module _ (behind : AreBehind places others) (free : owner places id.now ≡ None) where
      abbrev taken : Places
      taken = set places at (Some id)

      place_is : (other : Text) → mark other.now % length taken ≡ mark other.now % length places
      place_is other = ap (λ (n : ℕ). mark other.now % n) (length-set places at (Some id))

      owns : (other : Text) → mark other.now % length places ≡ at → owner taken other.now ≡ Some id
      owns other e = ap (λ (k : ℕ). get_or taken k None) (place_is other ∙ e)
          ∙ get_or-set_same places at (Some id) None lt

      owns_not : (other : Text) → mark other.now % length places ≢ at → owner taken other.now ≡ owner places other.now
      owns_not other apart = ap (λ (k : ℕ). get_or taken k None) (place_is other)
          ∙ get_or-set_other places at (mark other.now % length places) (Some id) None apart

      was_free : (other : Text) → mark other.now % length places ≡ at → owner places other.now ≡ None
      was_free other e = ap (λ (k : ℕ). get_or places k None) (e ∙ at_is) ∙ free

      not_in_tree : (other : Text) → owner places other.now ≡ None → contains text_cmp others other ≡ false
      not_in_tree other none = none_true (contains text_cmp others other)
          (λ there. not_both (is_some (owner places other.now)) (behind other there) (ap is_some none))

      differs : (other : Text) → mark other.now % length places ≢ at → same_id id.now other.now ≡ false
      differs other apart = none_true (same_id id.now other.now)
          (λ e. apart (ap (λ (i : List ℕ). mark i % length places) (sym (same_id_is id.now other.now e)) ∙ sym at_is))

      pub free_fresh : true ≡ not (holds places others id)
      free_fresh = sym (ap (λ (o : Option Text). not (is_held o (contains text_cmp others id) id.now)) free)

      pub free_kept : (other : Text) → holds taken others other
          ≡ (same_id id.now other.now || holds places others other)
      free_kept other = elim (cases_eq (mark other.now % length places) at) [
        | inl e ↦
            ap (λ (o : Option Text). is_held o (contains text_cmp others other) other.now) (owns other e)
            ∙ ap (λ (b : Bool). same_id id.now other.now || b)
            (not_in_tree other (was_free other e)
            ∙ sym (ap (λ (o : Option Text). is_held o (contains text_cmp others other) other.now) (was_free other e)))
        | inr apart ↦
            ap (λ (o : Option Text). is_held o (contains text_cmp others other) other.now) (owns_not other apart)
            ∙ ap (λ (b : Bool). b || holds places others other) (sym (differs other apart))
      ]

      pub free_behind : AreBehind taken others
      free_behind other there = elim (cases_eq (mark other.now % length places) at) [
        | inl e ↦ ap is_some (owns other e)
        | inr apart ↦ ap is_some (owns_not other apart) ∙ behind other there
      ]

  -- ---- its place is taken

  module _ (first : Text) (is : owner places id.now ≡ Some first) where
    -- by itself
    module _ (itself : same_id first.now id.now ≡ true) where
      pub known_fresh : false ≡ not (holds places others id)
      known_fresh = sym (ap (λ (o : Option Text). not (is_held o (contains text_cmp others id) id.now)) is
          ∙ ap (λ (b : Bool). not (b || contains text_cmp others id)) itself)

      pub known_kept : (other : Text) → holds places others other
          ≡ (same_id id.now other.now || holds places others other)
      known_kept other = elim (same_id id.now other.now) as
          (λ (b : Bool). same_id id.now other.now ≡ b → holds places others other ≡ (b || holds places others other)) [
            | true ↦ λ e.
                ap (λ (o : Option Text). is_held o (contains text_cmp others other) other.now) (same_owner other e ∙ is)
                ∙ ap (λ (b : Bool). b || contains text_cmp others other)
                (is_same_id first.now other.now (same_id_is first.now id.now itself ∙ same_id_is id.now other.now e))
            | false ↦ λ e. refl
          ] refl

    -- by another one
    module _ (apart : same_id first.now id.now ≡ false) (behind : AreBehind places others) (new : BTreeSet Text)
        (updates : Updates text_cmp others new id true) where
      pub tree_fresh : (fresh : Bool) → fresh ≡ not (contains text_cmp others id) → fresh ≡ not (holds places others id)
      tree_fresh fresh added = added
          ∙ sym (ap (λ (o : Option Text). not (is_held o (contains text_cmp others id) id.now)) is
          ∙ ap (λ (b : Bool). not (b || contains text_cmp others id)) apart)

      or_true : (b : Bool) → (b || true) ≡ true
      or_true true = refl
      or_true false = refl

      pub tree_kept : (other : Text) → holds places new other ≡ (same_id id.now other.now || holds places others other)
      tree_kept other =
          ap (λ (b : Bool). is_held (owner places other.now) b other.now) (updates.0 other)
          ∙ elim (same_id id.now other.now) as (λ (b : Bool). same_id id.now other.now ≡ b
          → is_held (owner places other.now) (cond b true (contains text_cmp others other)) other.now
          ≡ (b || holds places others other)) [
            | true ↦ λ e. ap (λ (o : Option Text). is_held o true other.now) (same_owner other e ∙ is)
                ∙ or_true (same_id first.now other.now)
            | false ↦ λ e. refl
          ] refl

      pub tree_behind : AreBehind places new
      tree_behind other there =
          elim (same_id id.now other.now) as (λ (b : Bool). same_id id.now other.now ≡ b
          → cond b true (contains text_cmp others other) ≡ true → is_some (owner places other.now) ≡ true) [
            | true ↦ λ e h. ap is_some (same_owner other e ∙ is)
            | false ↦ λ e h. behind other h
          ] refl (sym (updates.0 other) ∙ there)

-- what stands in the tree is behind also where memory ran out, and the tree is as it was
pub behind_either : {E : Type 0} (places : Places) (others new : BTreeSet Text) (id first : Text)
    → owner places id.now ≡ Some first → same_id first.now id.now ≡ false → AreBehind places others
    → (r : Result Bool E) → OnOk r (Updates text_cmp others new id true) → OnErr r (new.keys ≡ others.keys)
    → AreBehind places new
behind_either places others new id first is apart behind (Ok fresh) updates same =
    tree_behind places others id first is apart behind new updates
behind_either places others new id first is apart behind (Err e) updates same =
    λ other there. behind other (sym (same_keys other same) ∙ there)
  where
    same_keys : (other : Text) → new.keys ≡ others.keys → contains text_cmp new other ≡ contains text_cmp others other
    same_keys other e i = contains text_cmp (record { keys = e i }) other

-- ---- at first

abbrev nobody : Option Text
nobody = None

none_owned : (n k : ℕ) → get_or (replicate n nobody) k nobody ≡ nobody
none_owned zero k = refl
none_owned (suc n) zero = refl
none_owned (suc n) (suc k) = none_owned n k

-- ---- each once

-- one id more
pub taken_next : (found : List Text) (i : ℕ) (item id : Text) → i < length found → item ≡ get_or found i item
    → id.now ≡ item.now → map (λ x. x.now) (take i found) ++ id.now ∷ [] ≡ map (λ x. x.now) (take (i + 1) found)
taken_next found i item id lt at same =
    ap (λ (x : List ℕ). map (λ y. y.now) (take i found) ++ x ∷ []) (same ∙ ap (λ (t : Text). t.now) at)
    ∙ sym (map-append (λ (x : Text). x.now) (take i found) (get_or found i item ∷ []))
    ∙ ap (map (λ (x : Text). x.now)) (sym (take_more found i item lt))

module _ (before : List (List ℕ)) (places : Places) (others : BTreeSet Text)
    (holding : (other : Text) → holds places others other ≡ list_any (same_id other.now) before) (id : Text) where
  pub seen_more : (new_places : Places) (new : BTreeSet Text)
      → ((other : Text) → holds new_places new other ≡ (same_id id.now other.now || holds places others other))
      → (other : Text) → holds new_places new other ≡ list_any (same_id other.now) (before ++ id.now ∷ [])
  seen_more new_places new kept other =
      kept other
      ∙ ap₂ (λ (a b : Bool). a || b) (same_id-comm id.now other.now) (holding other)
      ∙ swapped (same_id other.now id.now) (list_any (same_id other.now) before)
      ∙ sym (list_any-append (same_id other.now) before (id.now ∷ []))
    where
      swapped : (a b : Bool) → (a || b) ≡ (b || (a || false))
      swapped true true = refl
      swapped true false = refl
      swapped false true = refl
      swapped false false = refl

  pub once_more : (ids after : List (List ℕ)) (fresh : Bool) → ids ≡ firsts id_cmp before
      → fresh ≡ not (holds places others id) → after ≡ cond fresh (ids ++ id.now ∷ []) ids
      → after ≡ firsts id_cmp (before ++ id.now ∷ [])
  once_more ids after fresh ids_are fresh_is after_is =
      after_is
      ∙ ap₂ (λ (b : Bool) (l : List (List ℕ)). cond b (l ++ id.now ∷ []) l) (fresh_is ∙ ap not (holding id)) ids_are
      ∙ turned (list_any (same_id id.now) before)
      ∙ sym (firsts-push id_cmp before id.now)
    where
      turned : (b : Bool) → cond (not b) (firsts id_cmp before ++ id.now ∷ []) (firsts id_cmp before)
          ≡ cond b (firsts id_cmp before) (firsts id_cmp before ++ id.now ∷ [])
      turned true = refl
      turned false = refl
