-- What is known of lists of entries as sets, and when entries are new.
use Rattle.std.proofs.Common.{◌≡◌, ◌≢◌, ℕ, Bool, true, false, cond, not, ◌&&◌, ◌||◌, List, [], ◌∷◌, refl, sym, subst}
use Rattle.std.proofs.Common.{◌∙◌, ap, ap₂, Ordering, Less, Equal, Greater}
use Rattle.std.specs.Cmp.{tied_itself}
use Rattle.std.specs.List.{filter}
use Rattle.std.specs.Ordering.{is_eq, ordering_then}
use Rattle.u1_base.specs.Ids.{id_cmp, same_id}
use Rattle.u1_base.proofs.Booleans.{first}
use Rattle.u1_base.proofs.SameIds.{equal_is, same_id-comm}
use Rattle.index_tables.specs.Documents.{has_key}
use Rattle.index_tables.specs.Entries.{AreNew, entries_of, has, is_of, not_among, not_of, same}
use Rattle.index_tables.specs.Order.{Entry, IsInOrder, Key, entry_cmp, key_cmp, same_key}
use Rattle.index_tables.proofs.Sets.{same_sets}
use Rattle.index_tables.proofs.TotalOrders.{entry_total, entry_same, key_same, key_total}

-- a list in order is told by what it has
pub same_tables : (ps qs : List Entry) → IsInOrder ps → IsInOrder qs → ((p : Entry) → has ps p ≡ has qs p) → ps ≡ qs
same_tables ps qs order other is = same_sets entry_cmp entry_total entry_same ps qs order other is

-- entries that tie are the same
pub same_is : (p q : Entry) → same p q ≡ true → p ≡ q
same_is p q is = entry_same p q (equal_is (entry_cmp p q) is)

pub same_self : (p : Entry) → same p p ≡ true
same_self p = ap is_eq (tied_itself entry_total p)

pub same_key_is : (a b : Key) → same_key a b ≡ true → a ≡ b
same_key_is a b is = key_same a b (equal_is (key_cmp a b) is)

pub same_key_self : (key : Key) → same_key key key ≡ true
same_key_self key = ap is_eq (tied_itself key_total key)

-- two entries tie where ids and keys do
pub same_pair : (p q : Entry) → same p q ≡ (same_id p.1 q.1 && same_key p.0 q.0)
same_pair p q = by (key_cmp p.0 q.0) (id_cmp p.1 q.1)
  where
    by : (a b : Ordering) → is_eq (ordering_then a b) ≡ (is_eq b && is_eq a)
    by Less Less = refl
    by Less Equal = refl
    by Less Greater = refl
    by Equal Less = refl
    by Equal Equal = refl
    by Equal Greater = refl
    by Greater Less = refl
    by Greater Equal = refl
    by Greater Greater = refl

-- the entries of a document are those of its id with one of its keys
pub has-entries_of : (id : List ℕ) (keys : List Key) (p : Entry)
    → has (entries_of id keys) p ≡ (same_id p.1 id && has_key keys p.0)
has-entries_of id [] p = none (same_id p.1 id)
  where
    none : (b : Bool) → false ≡ (b && false)
    none true = refl
    none false = refl
has-entries_of id (key ∷ keys) p =
    ap₂ (λ (a b : Bool). a || b) (same_pair p (key, id)) (has-entries_of id keys p)
    ∙ spread (same_id p.1 id) (same_key p.0 key) (has_key keys p.0)
  where
    spread : (b a c : Bool) → ((b && a) || (b && c)) ≡ (b && (a || c))
    spread true a c = refl
    spread false a c = refl

-- what is left of a list, entry by entry
pub has-filter : (f : Entry → Bool) (ps : List Entry) (p : Entry) → has (filter f ps) p ≡ (f p && has ps p)
has-filter f [] p = elim (f p) as (λ (b : Bool). false ≡ (b && false)) [ true ↦ refl | false ↦ refl ]
has-filter f (q ∷ ps) p =
    elim (same p q) as (λ (b : Bool). same p q ≡ b
    → has (cond (f q) (q ∷ filter f ps) (filter f ps)) p ≡ (f p && (b || has ps p))) [
      | true ↦ λ is.
          let one : f q ≡ f p = ap f (sym (same_is p q is)) in
          elim (f q) as (λ (a : Bool). f q ≡ a → has (cond a (q ∷ filter f ps) (filter f ps)) p ≡ (f p && true)) [
            | true ↦ λ a. ap (λ (b : Bool). b || has (filter f ps) p) is ∙ ap (λ (b : Bool). b && true) (sym a ∙ one)
            | false ↦ λ a. has-filter f ps p ∙ ap (λ (b : Bool). b && has ps p) (sym one ∙ a)
                ∙ ap (λ (b : Bool). b && true) (sym a ∙ one)
          ] refl
      | false ↦ λ is.
          elim (f q) as (λ (a : Bool). has (cond a (q ∷ filter f ps) (filter f ps)) p ≡ (f p && has ps p)) [
            | true ↦ ap (λ (b : Bool). b || has (filter f ps) p) is ∙ has-filter f ps p
            | false ↦ has-filter f ps p
          ]
    ] refl

-- the entries of a document are all of it
pub entries_are_of : (id : List ℕ) (keys : List Key) (p : Entry) → has (entries_of id keys) p ≡ true → is_of id p ≡ true
entries_are_of id keys p there = same_id-comm id p.1
    ∙ first (same_id p.1 id) (has_key keys p.0) (sym (has-entries_of id keys p) ∙ there)

-- the entries of a document are new where it has none
pub new_where_none : (ps : List Entry) (id : List ℕ) (keys : List Key)
    → ((p : Entry) → has ps p ≡ true → is_of id p ≡ false) → AreNew ps (entries_of id keys)
new_where_none ps id keys none p there =
    elim (has ps p) as (λ (b : Bool). has ps p ≡ b → b ≡ false) [
      | true ↦ λ is. let yes_of = entries_are_of id keys p there in let not_of = none p is
          in absurd (cc (yes_of, not_of))
      | false ↦ λ is. refl
    ] refl

-- and where all of its entries are gone
pub new_after_remove : (ps : List Entry) (id : List ℕ) (keys : List Key) → AreNew (not_of id ps) (entries_of id keys)
new_after_remove ps id keys = new_where_none (not_of id ps) id keys
    (λ p there. others (is_of id p) (has ps p) (sym (has-filter (λ q. not (is_of id q)) ps p) ∙ there))
  where
    others : (a b : Bool) → (not a && b) ≡ true → a ≡ false
    others true b h = absurd (cc)
    others false b h = refl

-- entries are new where all of them are gone
pub new_after_drop : (ps es : List Entry) → AreNew (not_among es ps) es
new_after_drop ps es p there = has-filter (λ q. not (has es q)) ps p ∙ ap (λ (b : Bool). not b && has ps p) there

-- keys that do not tie are not the same
pub other_key : (a b : Key) → is_eq (key_cmp a b) ≡ false → a ≢ b
other_key a b other is =
    let tie : is_eq (key_cmp a b) ≡ true = ap is_eq
    (subst (λ (x : Key). key_cmp a x ≡ Equal) is (tied_itself key_total a)) in
    absurd (cc (tie, other))
