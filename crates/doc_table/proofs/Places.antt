-- What the place of an id says of the pairs, and what an edit there makes of them.
use Rattle.std.proofs.Common.{◌≡◌, ◌≢◌, ℕ, ◌-◌, ◌<◌, ◌≤◌, true, false, not, List, [], ◌∷◌, length, set, get_or, zero}
use Rattle.std.proofs.Common.{suc, refl, sym, subst, ◌∙◌, ap, arith, Some, None, Ordering, Less, Equal, Greater}
use Rattle.std.specs.Prelude.{Bool, T, slice_get, IsTrue}
use Rattle.std.specs.Cmp.Lexicographic.{nat_list_cmp_total}
use Rattle.std.proofs.lemmas.List.{get_or_read}
use Rattle.std.specs.List.{HoldsAt, insert, remove}
use Rattle.std.specs.Ordering.{is_lt, is_eq, ordering_reverse}
use Rattle.std.specs.FinMap.Entries.{find, put, is_sorted, is_sorted-put, is_sorted-where_key}
use Rattle.chunk_list.specs.inner.Sorted.{StandsAt, FitsAt}
use Rattle.chunk_list.proofs.Sorted.{fits_at, from_test, put_fits, find_fits, where_fits, put_stands, find_stands}
use Rattle.chunk_list.proofs.Sorted.{where_stands}
use Rattle.doc_table.specs.Listed.{without}
use Rattle.u1_base.specs.Ids.{id_cmp, same_id}
use Rattle.u1_base.proofs.SameIds.{equal_is, id_tied}
use Rattle.doc_table.specs.Entries.{AreSorted}
use Rattle.doc_table.specs.inner.Entries.{IsFound}

apart : (r : Ordering) → is_eq r ≡ false → r ≢ Equal
apart Less e same = cc
apart Equal e same = cc
apart Greater e same = cc

module _ {V : Type 0} where
  -- the pair at a place, and none past the end
  pub pair_at : (ps : List (List ℕ × V)) (q : ℕ) (p : List ℕ × V) → Some p ≡ slice_get ps q → (q < length ps)
      × (p ≡ get_or ps q p)
  pair_at [] q p is = absurd (cc)
  pair_at (x ∷ ps) zero p is = let same : p ≡ x = cc in (omega arith, same)
  pair_at (x ∷ ps) (suc q) p is = let rest : (q < length ps) × (p ≡ get_or ps q p) = pair_at ps q p is
      in (omega arith, rest.1)

  no_pair : (ps : List (List ℕ × V)) (q : ℕ) → None ≡ slice_get ps q → length ps ≤ q
  no_pair [] q is = omega arith
  no_pair (x ∷ ps) zero is = absurd (cc)
  no_pair (x ∷ ps) (suc q) is = omega (arith, no_pair ps q is)

  -- the pair that the search stopped at has the id
  pub stands : (ps : List (List ℕ × V)) (id : List ℕ) (q : ℕ) (p : List ℕ × V) → Some p ≡ slice_get ps q
      → is_eq (id_cmp p.0 id) ≡ true → IsFound ps id q p
  stands ps id q p is same =
      let at : (q < length ps) × (p ≡ get_or ps q p) = pair_at ps q p is in
      let tie : id_cmp id p.0 ≡ Equal = nat_list_cmp_total.antisymm id p.0
      ∙ ap ordering_reverse (equal_is (id_cmp p.0 id) same) in (
        record {
          within = at.0;
          same = λ d. subst (λ (y : List ℕ × V). id_cmp id y.0 ≡ Equal) (get_or_read ps q p at.0 at.1 d) tie;
        },
        is,
      )

  -- it has another one, or there is none
  module _ (ps : List (List ℕ × V)) (id : List ℕ) (q : ℕ) (within : q ≤ length ps)
      (before : 0 < q → HoldsAt (λ p. is_lt (id_cmp p.0 id) ≡ true) ps (q - 1))
      (after : q < length ps → HoldsAt (λ p. is_lt (id_cmp p.0 id) ≡ false) ps q) where
    pub fits_before : (p : List ℕ × V) → Some p ≡ slice_get ps q → is_eq (id_cmp p.0 id) ≡ false
        → FitsAt id_cmp ps id q
    fits_before p is other =
        let at : (q < length ps) × (p ≡ get_or ps q p) = pair_at ps q p is in
        fits_at id_cmp nat_list_cmp_total id ps q within before after
        (λ less d. subst (λ (y : List ℕ × V). id_cmp y.0 id ≢ Equal) (get_or_read ps q p at.0 at.1 d)
        (apart (id_cmp p.0 id) other))

    pub fits_last : None ≡ slice_get ps q → FitsAt id_cmp ps id q
    fits_last none =
        fits_at id_cmp nat_list_cmp_total id ps q within before after
        (λ less. absurd (omega (arith, no_pair ps q none)))

  module _ (ps : List (List ℕ × V)) (id : List ℕ) (q : ℕ) (sorted : AreSorted ps) where
    rising : IsTrue (is_sorted id_cmp ps)
    rising = from_test _ sorted

    pub sorted_if_put : (new : List (List ℕ × V)) (v : V) → new ≡ put id_cmp id v ps → AreSorted new
    sorted_if_put new v is = subst (λ (pairs : List (List ℕ × V)). T (is_sorted id_cmp pairs)) (sym is)
        (is_sorted-put id_cmp nat_list_cmp_total id v ps sorted)

    -- a new id put where it fits
    module _ (f : FitsAt id_cmp ps id q) where
      pub put_new : (new : List (List ℕ × V)) (e : List ℕ × V) (v : V) → new ≡ insert ps q e → e ≡ (id, v)
          → new ≡ put id_cmp id v ps
      put_new new e v is pair = is ∙ ap (λ (p : List ℕ × V). insert ps q p) pair
          ∙ sym (put_fits id_cmp nat_list_cmp_total id ps q rising f v)

      pub not_found : find id_cmp id ps ≡ None
      not_found = find_fits id_cmp nat_list_cmp_total id ps q rising f

      pub take_none : ps ≡ without id ps
      take_none = sym (where_fits id_cmp nat_list_cmp_total id ps q rising f)

    -- an id that stands there
    module _ (s : StandsAt id_cmp ps id q) where
      pub put_there : (new : List (List ℕ × V)) (e : List ℕ × V) (v : V) (old : List ℕ × V) → new ≡ set ps q e
          → e ≡ (id, v) → old ≡ get_or ps q old → new ≡ put id_cmp id v ps
      put_there new e v old is pair old_is = is ∙ ap (λ (p : List ℕ × V). set ps q p) pair
          ∙ sym (put_stands id_cmp nat_list_cmp_total id_tied id ps q rising s v old old_is)

      pub found : (old : List ℕ × V) → old ≡ get_or ps q old → find id_cmp id ps ≡ Some old.1
      found old old_is = find_stands id_cmp nat_list_cmp_total id_tied id ps q rising s old old_is

      pub take_there : remove ps q ≡ without id ps
      take_there = sym (where_stands id_cmp nat_list_cmp_total id_tied id ps q rising s)

      pub take_there_sorted : AreSorted (remove ps q)
      take_there_sorted = subst (λ (pairs : List (List ℕ × V)). T (is_sorted id_cmp pairs)) (sym take_there)
          (is_sorted-where_key id_cmp (λ other. not (same_id id other)) ps sorted)
