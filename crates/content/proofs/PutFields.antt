-- A field that is put among others, behind all of them or at its place.
use Rattle.std.proofs.Common.{◌≡◌, ℕ, zero, suc, ◌+◌, ◌≤◌, max, Bool, true, false, List, [], ◌∷◌, ◌++◌, insert}
use Rattle.std.proofs.Common.{Option, Some, None, option_map, Ordering, Less, Equal, Greater, nat_cmp, refl, sym, ap}
use Rattle.std.proofs.Common.{◌∙◌, arith, subst}
use Rattle.std.proofs.lemmas.Bool.{or_parts, or_from}
use Rattle.std.proofs.lemmas.Cmp.{nat_list_cmp_total}
use Rattle.std.specs.Prelude.{⊤}
use Rattle.std.specs.Cmp.Lexicographic.{slice_cmp}
use Rattle.std.specs.Ordering.{is_lt, match_ordering, ordering_reverse}
use Rattle.serde_json.specs.Data.{Num, Data, Members, no_members, member, put, depth, members_depth}
use Rattle.content.specs.Canonical.{data_of, fields_data}
use Rattle.content.specs.Faults.{any_number, any_in_members}
use Rattle.content.specs.Plain.{comes_after}
use Rattle.content.specs.inner.Plain.{place_among}
use Rattle.content.specs.Tree.{Tree, Fields, nesting, fields_nesting}
use Rattle.content.specs.TreeOf.{pair_of, fields_view}
use Rattle.content.specs.declared.value.Field.{Field}
use Rattle.content.proofs.ReadBack.{depth-data_of, depth-fields}

-- what holds of each answer holds of the one that the ordering picks
by_ordering : {A : Type 0} (P : A → Type 0) (o : Ordering) (a b c : A) → P a → P b → P c → P (match_ordering o a b c)
by_ordering P Less a b c p q r = p
by_ordering P Equal a b c p q r = q
by_ordering P Greater a b c p q r = r

-- each name of the members stands before this one
abbrev pub AllBefore : List ℕ → Members → Type 0
AllBefore k no_members = ⊤
AllBefore k (member name d ms) = (slice_cmp nat_cmp name k ≡ Less) × AllBefore k ms

pub is_less : (o : Ordering) → is_lt o ≡ true → o ≡ Less
is_less Less e = refl
is_less Equal e = absurd (cc)
is_less Greater e = absurd (cc)

-- a name behind all the others goes last
pub put_last : (fs : List Field) (f : Field) → AllBefore (pair_of f).0 (fields_data (fields_view fs))
    → put (pair_of f).0 (data_of (pair_of f).1) (fields_data (fields_view fs))
    ≡ fields_data (fields_view (fs ++ f ∷ []))
put_last [] f h = refl
put_last (g ∷ fs) f h =
    let behind : slice_cmp nat_cmp (pair_of f).0 (pair_of g).0 ≡ Greater =
    nat_list_cmp_total.antisymm (pair_of f).0 (pair_of g).0 ∙ ap ordering_reverse h.0 in
    rw behind (ap (member (pair_of g).0 (data_of (pair_of g).1)) (put_last fs f h.1))

counted : (o : Option ℕ) (i : ℕ) → option_map suc o ≡ Some i → (j : ℕ) × (o ≡ Some j) × (suc j ≡ i)
counted None i e = absurd (cc)
counted (Some j) i e = (j, refl, cc)

-- one field in front of those among which the place is known
put_behind : (f g : Field) (fs : List Field) (o : Ordering) (i : ℕ)
    → ((j : ℕ) → place_among (pair_of f).0 (fields_view fs) ≡ Some j
    → put (pair_of f).0 (data_of (pair_of f).1) (fields_data (fields_view fs))
    ≡ fields_data (fields_view (insert fs j f)))
    → match_ordering o (Some 0) None (option_map suc (place_among (pair_of f).0 (fields_view fs))) ≡ Some i
    → match_ordering o (fields_data (fields_view (f ∷ g ∷ fs)))
    (member (pair_of g).0 (data_of (pair_of f).1) (fields_data (fields_view fs)))
    (member (pair_of g).0 (data_of (pair_of g).1)
    (put (pair_of f).0 (data_of (pair_of f).1) (fields_data (fields_view fs))))
    ≡ fields_data (fields_view (insert (g ∷ fs) i f))
put_behind f g fs Less zero later e = refl
put_behind f g fs Less (suc i) later e = absurd (cc)
put_behind f g fs Equal i later e = absurd (cc)
put_behind f g fs Greater i later e =
    let at = counted (place_among (pair_of f).0 (fields_view fs)) i e in
    ap (member (pair_of g).0 (data_of (pair_of g).1)) (later at.0 at.1)
    ∙ ap (λ n. fields_data (fields_view (insert (g ∷ fs) n f))) at.2

-- a name goes to its place
pub put_at : (f : Field) (fs : List Field) (i : ℕ) → place_among (pair_of f).0 (fields_view fs) ≡ Some i
    → put (pair_of f).0 (data_of (pair_of f).1) (fields_data (fields_view fs))
    ≡ fields_data (fields_view (insert fs i f))
put_at f [] zero e = refl
put_at f [] (suc i) e = absurd (cc)
put_at f (g ∷ fs) i e =
    put_behind f g fs (slice_cmp nat_cmp (pair_of f).0 (pair_of g).0) i (λ j. put_at f fs j) e

pub none_passed : (o : Option ℕ) → o ≡ option_map (λ p. 0 + p) o
none_passed None = refl
none_passed (Some p) = let same : p ≡ 0 + p = omega arith in ap Some same

-- ---- the names so far stand before those that come behind the last one

all_before_later : (k l : List ℕ) (ms : Members) → slice_cmp nat_cmp k l ≡ Less → AllBefore k ms → AllBefore l ms
all_before_later k l no_members less h = tt
all_before_later k l (member name d ms) less h =
    (nat_list_cmp_total.trans name k l h.0 less, all_before_later k l ms less h.1)

all_before_put : (k l : List ℕ) (d : Data) (ms : Members) → slice_cmp nat_cmp l k ≡ Less → AllBefore k ms
    → AllBefore k (put l d ms)
all_before_put k l d no_members less h = (less, tt)
all_before_put k l d (member name e ms) less h =
    by_ordering (AllBefore k) (slice_cmp nat_cmp l name) _ _ _ (less, h) h (h.0, all_before_put k l d ms less h.1)

-- what comes behind the new last name comes behind all
pub ascending_behind : (name : List ℕ) (d : Data) (old new : Members) → put name d old ≡ new → AllBefore name old
    → (k : List ℕ) → comes_after (Some name) k ≡ true → AllBefore k new
ascending_behind name d old new is before k e =
    let less : slice_cmp nat_cmp name k ≡ Less = is_less (slice_cmp nat_cmp name k) e in
    subst (AllBefore k) is (all_before_put k name d old less (all_before_later name k old less before))

-- a name that does not come behind the last one stands before all that do
before_all : (last name k : List ℕ) (o : Ordering) → slice_cmp nat_cmp last name ≡ o → is_lt o ≡ false
    → slice_cmp nat_cmp last k ≡ Less → slice_cmp nat_cmp name k ≡ Less
before_all last name k Less is e less = absurd (cc)
before_all last name k Equal is e less = sym (nat_list_cmp_total.congr last name k is) ∙ less
before_all last name k Greater is e less =
    nat_list_cmp_total.trans name last k (nat_list_cmp_total.antisymm name last ∙ ap ordering_reverse is) less

-- what came behind all the others comes behind a name that was put among them, too
pub ascending_among : (last : Option (List ℕ)) (name : List ℕ) (d : Data) (old new : Members) → put name d old ≡ new
    → comes_after last name ≡ false → ((k : List ℕ) → comes_after last k ≡ true → AllBefore k old)
    → (k : List ℕ) → comes_after last k ≡ true → AllBefore k new
ascending_among None name d old new is falls before k e = absurd (cc)
ascending_among (Some last) name d old new is falls before k e =
    let less : slice_cmp nat_cmp last k ≡ Less = is_less (slice_cmp nat_cmp last k) e in
    subst (AllBefore k) is (all_before_put k name d old
    (before_all last name k (slice_cmp nat_cmp last name) refl falls less) (before k e))

-- ---- the limits

depth_put : (k : List ℕ) (d : Data) (ms : Members) (n : ℕ) → members_depth ms ≤ n → depth d ≤ n
    → members_depth (put k d ms) ≤ n
depth_put k d no_members n old new = omega (arith, new)
depth_put k d (member l e ms) n old new =
    let first : depth e ≤ n = omega (arith, old) in
    let others : members_depth ms ≤ n = omega (arith, old) in
    let all : max (depth d) (max (depth e) (members_depth ms)) ≤ n = omega (arith, old, new) in
    let instead : max (depth d) (members_depth ms) ≤ n = omega (arith, others, new) in
    let later : max (depth e) (members_depth (put k d ms)) ≤ n = omega (arith, first, depth_put k d ms n others new) in
    by_ordering (λ m. members_depth m ≤ n) (slice_cmp nat_cmp k l) _ _ _ all instead later

pub nesting_put : (k : List ℕ) (t : Tree) (old new : Fields) (n : ℕ)
    → put k (data_of t) (fields_data old) ≡ fields_data new → fields_nesting old ≤ n → nesting t ≤ n
    → fields_nesting new ≤ n
nesting_put k t old new n is before value =
    let low : members_depth (fields_data old) ≤ n = omega (arith, depth-fields old, before) in
    let flat : depth (data_of t) ≤ n = omega (arith, depth-data_of t, value) in
    let put_low : members_depth (fields_data new) ≤ n = subst (λ m. members_depth m ≤ n) is (depth_put k (data_of t)
    (fields_data old) n low flat) in
    omega (arith, depth-fields new, put_low)

none_put : (p : Num → Bool) (k : List ℕ) (d : Data) (ms : Members) → any_in_members p ms ≡ false
    → any_number p d ≡ false → any_in_members p (put k d ms) ≡ false
none_put p k d no_members old new = or_from (any_number p d) false new refl
none_put p k d (member l e ms) old new =
    let parts = or_parts (any_number p e) (any_in_members p ms) old in
    by_ordering (λ m. any_in_members p m ≡ false) (slice_cmp nat_cmp k l) _ _ _ (or_from _ _ new old)
    (or_from _ _ new parts.1) (or_from _ _ parts.0 (none_put p k d ms parts.1 new))

pub none_with : (p : Num → Bool) (k : List ℕ) (d : Data) (old new : Members) → put k d old ≡ new
    → any_in_members p old ≡ false → any_number p d ≡ false → any_in_members p new ≡ false
none_with p k d old new is before value = ap (any_in_members p) (sym is) ∙ none_put p k d old before value
