-- A table follows the documents that it is of.
use Rattle.std.proofs.Common.{◌≡◌, ℕ, Bool, true, false, cond, not, ◌&&◌, ◌||◌, List, [], ◌∷◌, ◌++◌, length, refl, sym}
use Rattle.std.proofs.Common.{subst, ◌∙◌, ap, ap₂, Option, Some, None}
use Rattle.std.proofs.lemmas.List.Elements.{All-nil, All-cons, All-head, All-tail}
use Rattle.std.specs.Cmp.Lexicographic.{nat_list_cmp_total}
use Rattle.std.specs.FinMap.Entries.{find, put, find-put, find-append}
use Rattle.std.specs.List.{All}
use Rattle.std.specs.Option.{unwrap_or}
use Rattle.u1_base.specs.Ids.{id_cmp, same_id}
use Rattle.u1_base.proofs.Booleans.{first}
use Rattle.u1_base.proofs.SameIds.{same_id_is}
use Rattle.index_tables.specs.Documents.{Documents, IsTableOf, dropped, has_key, keys_at}
use Rattle.index_tables.specs.Entries.{AreNew, HaveWidth, HoldsBoth, entries_of, has, same}
use Rattle.index_tables.specs.Order.{Entry, IsInOrder, Key, same_key}
use Rattle.index_tables.proofs.Laws.{has-entries_of, has-filter, same_is, same_key_is, same_self, same_tables}
use Rattle.index_tables.proofs.PutIn.{or_false}

abbrev keys_in : Option (List Key) → List Key
keys_in found = unwrap_or found []

not_and : (a : Bool) → (not a && a) ≡ false
not_and true = refl
not_and false = refl

module _ (documents : Documents) (entries : List Entry) (id : List ℕ) (is : IsTableOf documents entries) where
  -- ---- the entries of a document go

  stood : (p : Entry) → same_id p.1 id ≡ true → has entries p ≡ has_key (keys_at documents id) p.0
  stood p e = is p ∙ ap (λ (i : List ℕ). has_key (keys_at documents i) p.0) (same_id_is p.1 id e)

  -- none of it is left, and those of others are
  left : (p : Entry) → has (dropped documents id entries) p ≡ (not (same_id p.1 id) && has entries p)
  left p =
      has-filter (λ q. not (has (entries_of id (keys_at documents id)) q)) entries p
      ∙ ap (λ (b : Bool). not b && has entries p) (has-entries_of id (keys_at documents id) p)
      ∙ elim (same_id p.1 id) as (λ (b : Bool). same_id p.1 id ≡ b
      → (not (b && has_key (keys_at documents id) p.0) && has entries p) ≡ (not b && has entries p)) [
        | true ↦ λ e. ap (λ (b : Bool). not (has_key (keys_at documents id) p.0) && b) (stood p e)
            ∙ not_and (has_key (keys_at documents id) p.0)
        | false ↦ λ e. refl
      ] refl

  pub new_after : (keys : List Key) → AreNew (dropped documents id entries) (entries_of id keys)
  new_after keys p there =
      left p ∙ ap (λ (b : Bool). not b && has entries p)
      (first (same_id p.1 id) (has_key keys p.0) (sym (has-entries_of id keys p) ∙ there))

  pub put_table : (keys : List Key) (new : List Entry)
      → HoldsBoth (dropped documents id entries) (entries_of id keys) new → IsTableOf (put id_cmp id keys documents) new
  put_table keys new both p =
      both p
      ∙ ap₂ (λ (a b : Bool). a || b) (left p) (has-entries_of id keys p)
      ∙ chosen
      ∙ ap (λ (found : Option (List Key)). has_key (keys_in found) p.0)
      (sym (find-put id_cmp nat_list_cmp_total p.1 id keys documents))
    where
      chosen : ((not (same_id p.1 id) && has entries p) || (same_id p.1 id && has_key keys p.0))
          ≡ has_key (keys_in (cond (same_id p.1 id) (Some keys) (find id_cmp p.1 documents))) p.0
      chosen = elim (same_id p.1 id) as
          (λ (b : Bool). ((not b && has entries p) || (b && has_key keys p.0))
          ≡ has_key (keys_in (cond b (Some keys) (find id_cmp p.1 documents))) p.0) [
            | true ↦ refl
            | false ↦ or_false (has entries p) ∙ is p
          ]

  -- ---- a document more, whose id is not there

  module _ (none : find id_cmp id documents ≡ None) where
    none_stood : (p : Entry) → same_id p.1 id ≡ true → has entries p ≡ false
    none_stood p e = stood p e ∙ ap (λ (found : Option (List Key)). has_key (keys_in found) p.0) none

    pub new_document : (keys : List Key) → AreNew entries (entries_of id keys)
    new_document keys p there = none_stood p
        (first (same_id p.1 id) (has_key keys p.0) (sym (has-entries_of id keys p) ∙ there))

    pub push_table : (keys : List Key) (new : List Entry) → HoldsBoth entries (entries_of id keys) new
        → IsTableOf (documents ++ (id, keys) ∷ []) new
    push_table keys new both p =
        both p
        ∙ ap (λ (b : Bool). has entries p || b) (has-entries_of id keys p)
        ∙ chosen
        ∙ ap (λ (found : Option (List Key)). has_key (keys_in found) p.0)
        (sym (find-append id_cmp nat_list_cmp_total documents id keys p.1 none))
      where
        chosen : (has entries p || (same_id p.1 id && has_key keys p.0))
            ≡ has_key (keys_in (cond (same_id p.1 id) (Some keys) (find id_cmp p.1 documents))) p.0
        chosen = elim (same_id p.1 id) as (λ (b : Bool). same_id p.1 id ≡ b
            → (has entries p || (b && has_key keys p.0))
            ≡ has_key (keys_in (cond b (Some keys) (find id_cmp p.1 documents))) p.0) [
              | true ↦ λ e. ap (λ (b : Bool). b || has_key keys p.0) (none_stood p e)
              | false ↦ λ e. or_false (has entries p) ∙ is p
            ] refl

-- ---- what documents tell

pub one_table : (documents : Documents) (entries others : List Entry) → IsInOrder entries → IsInOrder others
    → IsTableOf documents entries → IsTableOf documents others → entries ≡ others
one_table documents entries others order other_order is other_is =
    same_tables entries others order other_order (λ p. is p ∙ sym (other_is p))

-- what holds of all keys holds of one that is among them
pub of_keys : (P : Key → Type 0) (keys : List Key) (key : Key) → All P keys → has_key keys key ≡ true → P key
of_keys P [] key all there = absurd (cc)
of_keys P (k ∷ keys) key all there = elim (same_key key k) as
    (λ (b : Bool). same_key key k ≡ b → (b || has_key keys key) ≡ true → P key) [
      | true ↦ λ e h. subst P (sym (same_key_is key k e)) (All-head P k keys all)
      | false ↦ λ e h. of_keys P keys key (All-tail P k keys all) h
    ] refl there

or_later : (a b : Bool) → b ≡ true → (a || b) ≡ true
or_later true b p = refl
or_later false b p = p

-- what holds of each entry that a list has holds of all
all_has : (P : Entry → Type 0) (entries : List Entry) → ((p : Entry) → has entries p ≡ true → P p) → All P entries
all_has P [] each = All-nil P
all_has P (p ∷ ps) each = All-cons P p ps (each p (ap (λ (b : Bool). b || has ps p) (same_self p)))
    (all_has P ps (λ q there. each q (or_later (same q p) (has ps q) there)))

pub wide : (width : ℕ) (documents : Documents) (entries : List Entry)
    → ((id : List ℕ) → All (λ key. length key ≡ width) (keys_at documents id)) → IsTableOf documents entries
    → HaveWidth width entries
wide width documents entries keys is =
    all_has (λ p. length p.0 ≡ width) entries
    (λ p there. of_keys (λ key. length key ≡ width) (keys_at documents p.1) p.0 (keys p.1) (sym (is p) ∙ there))
