-- The least wanted key of some keys.
use Rattle.std.proofs.Common.{◌≡◌, Bool, true, false, cond, ◌||◌, List, [], ◌∷◌, refl, sym, subst, ◌∙◌, ap, Ordering}
use Rattle.std.proofs.Common.{Less, Equal, Greater, Option, Some, None}
use Rattle.std.proofs.lemmas.Cmp.{upto}
use Rattle.std.specs.List.{list_any}
use Rattle.std.specs.Ordering.{is_eq, is_le, is_lt, ordering_reverse}
use Rattle.u1_base.proofs.Booleans.{not_both}
use Rattle.index_tables.specs.Documents.{has_key}
use Rattle.index_tables.specs.Order.{Key, key_cmp, same_key}
use Rattle.index_tables.proofs.Laws.{same_key_is, same_key_self}
use Rattle.index_tables.proofs.TotalOrders.{key_same, key_total}
use Rattle.query_range.specs.Answers.{IsLeastOf}
use Rattle.query_range.proofs.Ranges.{gt_le, le_gt}
use Rattle.replica_reads.specs.Answers.{least_of, lesser}

pub or_later : (a b : Bool) → b ≡ true → (a || b) ≡ true
or_later true b h = refl
or_later false b h = h

pub or_none : (a b : Bool) → (a || b) ≡ false → (a ≡ false) × (b ≡ false)
or_none true b h = absurd (cc)
or_none false b h = (refl, h)

not_greater : (a b c : Key) → is_le (key_cmp a b) ≡ true → is_le (key_cmp b c) ≡ true → is_le (key_cmp a c) ≡ true
not_greater a b c low high = gt_le (key_cmp a c)
    (upto key_total a b c (le_gt (key_cmp a b) low) (le_gt (key_cmp b c) high))

below_is_le : (r : Ordering) → is_lt r ≡ true → is_le r ≡ true
below_is_le Less h = refl
below_is_le Equal h = absurd (cc)
below_is_le Greater h = absurd (cc)

not_below : (a b : Key) → is_lt (key_cmp a b) ≡ false → is_le (key_cmp b a) ≡ true
not_below a b high = ap is_le (key_total.antisymm b a) ∙ by (key_cmp a b) high
  where
    by : (r : Ordering) → is_lt r ≡ false → is_le (ordering_reverse r) ≡ true
    by Less h = absurd (cc)
    by Equal h = refl
    by Greater h = refl

self_le : (key : Key) → is_le (key_cmp key key) ≡ true
self_le key = by (key_cmp key key) (same_key_self key)
  where
    by : (r : Ordering) → is_eq r ≡ true → is_le r ≡ true
    by Less h = absurd (cc)
    by Equal h = refl
    by Greater h = absurd (cc)

-- a key that stands among others is the first, or stands behind it
pub either : (P : Type 0) (key k : Key) (keys : List Key) → has_key (k ∷ keys) key ≡ true → (key ≡ k → P)
    → (has_key keys key ≡ true → P) → P
either P key k keys there here behind = elim (same_key key k) as
    (λ (b : Bool). same_key key k ≡ b → (b || has_key keys key) ≡ true → P) [
      | true ↦ λ e h. here (same_key_is key k e)
      | false ↦ λ e h. behind h
    ] refl there

module _ (wanted : Key → Bool) where
  none_wanted : (keys : List Key) (key : Key) → list_any wanted keys ≡ false → has_key keys key ≡ true
      → wanted key ≡ true → ⊥
  none_wanted [] key none there is = absurd (cc)
  none_wanted (k ∷ keys) key none there is =
      let parts = or_none (wanted k) (list_any wanted keys) none in
      either ⊥ key k keys there (λ e. not_both (wanted k) (subst (λ (x : Key). wanted x ≡ true) e is) parts.0)
      (λ h. none_wanted keys key parts.1 h is)

  -- there is a least one, or none is wanted
  abbrev pub IsLeast : List Key → Option Key → Type 0
  IsLeast keys None = list_any wanted keys ≡ false
  IsLeast keys (Some key) = IsLeastOf wanted keys key

  -- the first is wanted, and no more than the others that are
  first_least : (k : Key) (keys : List Key) → wanted k ≡ true
      → ((other : Key) → has_key keys other ≡ true → wanted other ≡ true → is_le (key_cmp k other) ≡ true)
      → IsLeastOf wanted (k ∷ keys) k
  first_least k keys is low = record {
    there = ap (λ (b : Bool). b || has_key keys k) (same_key_self k);
    is_wanted = is;
    least = λ other there w. either (is_le (key_cmp k other) ≡ true) other k keys there
        (λ e. subst (λ (x : Key). is_le (key_cmp k x) ≡ true) (sym e) (self_le k)) (λ h. low other h w);
  }

  -- a least one of the others, where the first is not wanted or no less
  later_least : (k m : Key) (keys : List Key) → IsLeastOf wanted keys m
      → (wanted k ≡ true → is_le (key_cmp m k) ≡ true) → IsLeastOf wanted (k ∷ keys) m
  later_least k m keys l low = record {
    there = or_later (same_key m k) (has_key keys m) l.there;
    is_wanted = l.is_wanted;
    least = λ other there w. either (is_le (key_cmp m other) ≡ true) other k keys there
        (λ e. subst (λ (x : Key). is_le (key_cmp m x) ≡ true) (sym e) (low (subst (λ (x : Key). wanted x ≡ true) e w)))
        (λ h. l.least other h w);
  }

  with_first : (k : Key) (keys : List Key) (o : Option Key) → wanted k ≡ true → IsLeast keys o
      → IsLeastOf wanted (k ∷ keys) (lesser k o)
  with_first k keys None is none = first_least k keys is (λ other there w. absurd (none_wanted keys other none there w))
  with_first k keys (Some m) is l = elim (is_lt (key_cmp m k)) as
      (λ (b : Bool). is_lt (key_cmp m k) ≡ b → IsLeastOf wanted (k ∷ keys) (cond b m k)) [
        | true ↦ λ e. later_least k m keys l (λ _. below_is_le (key_cmp m k) e)
        | false ↦ λ e. first_least k keys is
            (λ other there w. not_greater k m other (not_below m k e) (l.least other there w))
      ] refl

  without_first : (k : Key) (keys : List Key) (o : Option Key) → wanted k ≡ false → IsLeast keys o
      → IsLeast (k ∷ keys) o
  without_first k keys None unwanted none = ap (λ (b : Bool). b || list_any wanted keys) unwanted ∙ none
  without_first k keys (Some m) unwanted l = later_least k m keys l (λ is. absurd (not_both (wanted k) is unwanted))

  pub least : (keys : List Key) → IsLeast keys (least_of wanted keys)
  least [] = refl
  least (k ∷ keys) = elim (wanted k) as (λ (b : Bool). wanted k ≡ b
      → IsLeast (k ∷ keys) (cond b (Some (lesser k (least_of wanted keys))) (least_of wanted keys))) [
        | true ↦ λ e. with_first k keys (least_of wanted keys) e (least keys)
        | false ↦ λ e. without_first k keys (least_of wanted keys) e (least keys)
      ] refl

  -- it is the one that is least
  one_least : (keys : List Key) (a b : Key) → IsLeastOf wanted keys a → IsLeastOf wanted keys b → a ≡ b
  one_least keys a b l m = both_ways (key_cmp a b) refl (l.least b m.there m.is_wanted) (m.least a l.there l.is_wanted)
    where
      both_ways : (r : Ordering) → key_cmp a b ≡ r → is_le r ≡ true → is_le (key_cmp b a) ≡ true → a ≡ b
      both_ways Less e low high =
          absurd (not_both (is_le (key_cmp b a)) high
          (ap is_le (key_total.antisymm b a) ∙ ap (λ (r : Ordering). is_le (ordering_reverse r)) e))
      both_ways Equal e low high = key_same a b e
      both_ways Greater e low high = absurd (cc)

  pub least_told : (keys : List Key) (key : Key) → IsLeastOf wanted keys key → least_of wanted keys ≡ Some key
  least_told keys key l = told (least_of wanted keys) (least keys)
    where
      told : (o : Option Key) → IsLeast keys o → o ≡ Some key
      told None none = absurd (none_wanted keys key none l.there l.is_wanted)
      told (Some m) k = ap Some (one_least keys m key k l)

  pub some_wanted : (keys : List Key) (key : Key) → least_of wanted keys ≡ Some key → list_any wanted keys ≡ true
  some_wanted [] key e = absurd (cc)
  some_wanted (k ∷ keys) key e = elim (wanted k) as
      (λ (b : Bool). cond b (Some (lesser k (least_of wanted keys))) (least_of wanted keys) ≡ Some key
      → (b || list_any wanted keys) ≡ true) [
        | true ↦ λ h. refl
        | false ↦ λ h. some_wanted keys key h
      ] e

  pub wanted_least : (keys : List Key) → list_any wanted keys ≡ true → (key : Key) × (least_of wanted keys ≡ Some key)
  wanted_least keys some = told (least_of wanted keys) refl (least keys)
    where
      told : (o : Option Key) → least_of wanted keys ≡ o → IsLeast keys o → (key : Key)
          × (least_of wanted keys ≡ Some key)
      told None e none = absurd (not_both (list_any wanted keys) some none)
      told (Some key) e l = (key, e)
