-- Tables grow, keep their numbers, and give no uid two of them.
use Rattle.std.proofs.Common.{◌≡◌, ℕ, zero, suc, ◌+◌, ◌-◌, ◌≤◌, ◌<◌, ◌^◌, Bool, true, false, not, cond, List, [], ◌∷◌}
use Rattle.std.proofs.Common.{◌++◌, length, Option, Some, None, refl, sym, ap, ◌∙◌, subst, arith, length-append}
use Rattle.std.proofs.Common.{lit≤}
use Rattle.std.specs.Prelude.{◌||◌, is_some, position}
use Rattle.std.specs.List.{list_all, list_any, position_from, slice_get}
use Rattle.std.specs.Str.{bytes_eq}
use Rattle.std.specs.Cmp.Lexicographic.{texts_ties}
use Rattle.std.proofs.lemmas.Bool.{and_parts, and_from, or_parts}
use Rattle.std.proofs.lemmas.Iterator.Adapters.{position_from-zero}
use Rattle.u1_base.specs.Ids.{IsId, is_id, same_id}
use Rattle.u1_base.specs.declared.ids.Form.TheVariants.{Replica}
use Rattle.u1_base.proofs.Booleans.{not_true}
use Rattle.u1_base.proofs.SameIds.{same_id_is, is_same_id, same_id-comm}
use Rattle.record_fields.specs.Table.{Text, Table, uids, number_of, with_uid, after, are_distinct, AreNumbered}
use Rattle.record_fields.specs.inner.Table.{HasRoom}

-- ---- one uid after the other

pub after-append : (t : Table) (us vs : List Text) → after t (us ++ vs) ≡ after (after t us) vs
after-append t [] vs = refl
after-append t (u ∷ us) vs = after-append (with_uid t u) us vs

grown-longer : (t : Table) (u : Text) (b : Bool)
    → length (uids t) ≤ length (uids (cond b t (record { given = t.given; added = t.added ++ u ∷ [] })))
grown-longer t u true = omega arith
grown-longer t u false = simp length-append (omega arith)

pub with_uid-longer : (t : Table) (u : Text) → length (uids t) ≤ length (uids (with_uid t u))
with_uid-longer t u = grown-longer t u (is_some (number_of (uids t) u))

pub after-longer : (t : Table) (us : List Text) → length (uids t) ≤ length (uids (after t us))
after-longer t [] = omega arith
after-longer t (u ∷ us) = omega (arith, with_uid-longer t u, after-longer (with_uid t u) us)

-- where there is room after more uids, there was room before them
pub room_before : (t : Table) (us : List Text) → HasRoom (after t us) → HasRoom t
room_before t us room = omega (arith, after-longer t us, room)

-- ---- numbers

-- what the code's `==` of uids finds
pub number_by_bytes : (us : List Text) (u : Text) → position (λ known. bytes_eq known u) us ≡ number_of us u
number_by_bytes us u = λ i. position (λ known. (texts_ties known u ∙ same_id-comm known u) i) us

pub number_of-from : (us : List Text) (u : Text) → number_of us u ≡ position_from (same_id u) 0 us
number_of-from us u = position_from-zero (same_id u) us

-- the uid of a number is the one that has it
at_from : (us : List Text) (u : Text) (from n : ℕ) → position_from (same_id u) from us ≡ Some n
    → (k : ℕ) × (n ≡ from + k) × (slice_get us k ≡ Some u)
at_from [] u from n e = absurd (cc e)
at_from (v ∷ us) u from n e =
    elim (same_id u v) as (λ b. same_id u v ≡ b
    → cond b (Some from) (position_from (same_id u) (from + 1) us) ≡ Some n → (k : ℕ) × (n ≡ from + k)
    × (slice_get (v ∷ us) k ≡ Some u)) [
      | true ↦ λ same here. (0, omega (arith, some_is here), ap Some (sym (same_id_is u v same)))
      | false ↦ λ other there. let later = at_from us u (from + 1) n there
          in (suc later.0, omega (arith, later.1), later.2)
    ] refl e
  where
    some_is : {a b : ℕ} → Some a ≡ Some b → a ≡ b
    some_is e = cc

pub number_of-get : (us : List Text) (u : Text) (n : ℕ) → number_of us u ≡ Some n → slice_get us n ≡ Some u
number_of-get us u n e =
    let found = at_from us u 0 n (sym (number_of-from us u) ∙ e) in
    let same : n ≡ found.0 = omega (arith, found.1) in
    rw same found.2

-- no number where none of the uids is this one
pub none_from : (us : List Text) (u : Text) (from : ℕ) → position_from (same_id u) from us ≡ None
    → list_any (same_id u) us ≡ false
none_from [] u from e = refl
none_from (v ∷ us) u from e =
    elim (same_id u v) as (λ b. cond b (Some from) (position_from (same_id u) (from + 1) us) ≡ None
    → (b || list_any (same_id u) us) ≡ false) [
      | true ↦ λ here. absurd (cc here)
      | false ↦ λ there. none_from us u (from + 1) there
    ] e

pub number_of-none : (us : List Text) (u : Text) → number_of us u ≡ None
    → list_any (same_id u) us ≡ false
number_of-none us u e = none_from us u 0 (sym (number_of-from us u) ∙ e)

-- ---- no uid has two numbers

any_at : (us : List Text) (u : Text) (k : ℕ) → slice_get us k ≡ Some u → list_any (same_id u) us ≡ true
any_at [] u k e = absurd (cc e)
any_at (v ∷ us) u zero e =
    let same : v ≡ u = some_text e
    in ap (λ b. b || list_any (same_id u) us) (is_same_id u v (sym same))
  where
    some_text : {a b : Text} → Some a ≡ Some b → a ≡ b
    some_text e = cc
any_at (v ∷ us) u (suc k) e = either (same_id u v) (any_at us u k e)
  where
    either : (b : Bool) {c : Bool} → c ≡ true → (b || c) ≡ true
    either true h = refl
    either false h = h

same_as : (v w : Text) (us : List Text) → v ≡ w
    → list_any (same_id v) us ≡ list_any (same_id w) us
same_as v w us e = ap (λ x. list_any (same_id x) us) e

at_distinct : (us : List Text) (u : Text) (from k : ℕ) → are_distinct us ≡ true → slice_get us k ≡ Some u
    → position_from (same_id u) from us ≡ Some (from + k)
at_distinct [] u from k d e = absurd (cc e)
at_distinct (v ∷ us) u from zero d e =
    let same : v ≡ u = some_text e in
    ap (λ b. cond b (Some from) (position_from (same_id u) (from + 1) us))
    (is_same_id u v (sym same)) ∙ ap Some (omega arith)
  where
    some_text : {a b : Text} → Some a ≡ Some b → a ≡ b
    some_text e = cc
at_distinct (v ∷ us) u from (suc k) d e =
    let parts = and_parts (not (list_any (same_id v) us)) (are_distinct us) d in
    elim (same_id u v) as (λ b. same_id u v ≡ b
    → cond b (Some from) (position_from (same_id u) (from + 1) us) ≡ Some (from + suc k)) [
      | true ↦ λ same. absurd
          (clash (list_any (same_id v) us) parts.0
          (same_as v u us (sym (same_id_is u v same)) ∙ any_at us u k e))
      | false ↦ λ other. at_distinct us u (from + 1) k parts.1 e ∙ ap Some (omega arith)
    ] refl
  where
    clash : (b : Bool) → not b ≡ true → b ≡ true → ⊥
    clash true denies holds = absurd (cc denies)
    clash false denies holds = absurd (cc holds)

pub number_of-distinct : (us : List Text) (u : Text) (n : ℕ) → are_distinct us ≡ true → slice_get us n ≡ Some u
    → number_of us u ≡ Some n
number_of-distinct us u n d e = number_of-from us u ∙ at_distinct us u 0 n d e ∙ ap Some (omega arith)

-- one more uid, which has no number yet
apart : (us : List Text) (u v : Text) → list_any (same_id v) us ≡ false → same_id v u ≡ false
    → list_any (same_id v) (us ++ u ∷ []) ≡ false
apart [] u v none other = ap (λ b. b || false) other
apart (w ∷ us) u v none other =
    let parts = or_parts (same_id v w) (list_any (same_id v) us) none in
    ap (λ b. b || list_any (same_id v) (us ++ u ∷ [])) parts.0 ∙ apart us u v parts.1 other

distinct_more : (us : List Text) (u : Text) → are_distinct us ≡ true → list_any (same_id u) us ≡ false
    → are_distinct (us ++ u ∷ []) ≡ true
distinct_more [] u d none = refl
distinct_more (v ∷ us) u d none =
    let parts = and_parts (not (list_any (same_id v) us)) (are_distinct us) d in
    let others = or_parts (same_id u v) (list_any (same_id u) us) none in
    let turned : same_id v u ≡ false = same_id-comm v u ∙ others.0 in
    and_from _ _ (ap not (apart us u v (not_true (list_any (same_id v) us) parts.0) turned))
    (distinct_more us u parts.1 others.1)

none_is : (o : Option ℕ) → is_some o ≡ false → o ≡ None
none_is None e = refl
none_is (Some n) e = absurd (cc e)

-- the table with one more uid
pub with_new : (t : Table) (u : Text) → is_some (number_of (uids t) u) ≡ false
    → with_uid t u ≡ record { given = t.given; added = t.added ++ u ∷ [] }
with_new t u none = ap (λ b. cond b t (record { given = t.given; added = t.added ++ u ∷ [] })) none

pub with_known : (t : Table) (u : Text) (n : ℕ) → number_of (uids t) u ≡ Some n → with_uid t u ≡ t
with_known t u n e = ap (λ o. cond (is_some o) t (record { given = t.given; added = t.added ++ u ∷ [] })) e

regrouped : (t : Table) (u : Text) → t.given ++ (t.added ++ u ∷ []) ≡ uids t ++ u ∷ []
regrouped t u = sym (append_is t.given t.added (u ∷ []))
  where
    append_is : (a b c : List Text) → (a ++ b) ++ c ≡ a ++ (b ++ c)
    append_is [] b c = refl
    append_is (x ∷ a) b c = ap (λ s. x ∷ s) (append_is a b c)

pub length-new : (t : Table) (u : Text) → number_of (uids t) u ≡ None
    → length (uids (with_uid t u)) ≡ length (uids t) + 1
length-new t u unknown =
    ap (λ x. length (uids x)) (with_new t u (ap is_some unknown)) ∙ ap length (regrouped t u)
    ∙ length-append (uids t) (u ∷ [])

all_more : (us : List Text) (u : Text) → list_all (is_id Replica) us ≡ true → IsId Replica u
    → list_all (is_id Replica) (us ++ u ∷ []) ≡ true
all_more [] u all is = and_from (is_id Replica u) true is refl
all_more (v ∷ us) u all is =
    let parts = and_parts (is_id Replica v) (list_all (is_id Replica) us) all in
    and_from (is_id Replica v) (list_all (is_id Replica) (us ++ u ∷ [])) parts.0 (all_more us u parts.1 is)

abbrev pub IsTable : Table → Type 0
IsTable t = AreNumbered (uids t)

-- one more uid, which has no number yet
pub AreNumbered-more : (us : List Text) (u : Text) → AreNumbered us → IsId Replica u → is_some (number_of us u) ≡ false
    → length us < 2 ^ 32 → AreNumbered (us ++ u ∷ [])
AreNumbered-more us u are is none room = record {
  ids = all_more us u are.ids is;
  distinct = distinct_more us u are.distinct (number_of-none us u (none_is (number_of us u) none));
  few = omega (arith, length-append us (u ∷ []), room);
}

pub IsTable-with_new : (t : Table) (u : Text) → IsTable t → IsId Replica u → is_some (number_of (uids t) u) ≡ false
    → length (uids t) < 2 ^ 32 → IsTable (with_uid t u)
IsTable-with_new t u are is none room =
    subst IsTable (sym (with_new t u none))
    (subst AreNumbered (sym (regrouped t u)) (AreNumbered-more (uids t) u are is none room))

-- the uid of a number is a uid
pub id_at : (us : List Text) (u : Text) (n : ℕ) → list_all (is_id Replica) us ≡ true → slice_get us n ≡ Some u
    → IsId Replica u
id_at [] u n all e = absurd (cc e)
id_at (v ∷ us) u zero all e = subst (IsId Replica) (some_text e)
    (and_parts (is_id Replica v) (list_all (is_id Replica) us) all).0
  where
    some_text : {a b : Text} → Some a ≡ Some b → a ≡ b
    some_text e = cc
id_at (v ∷ us) u (suc n) all e = id_at us u n (and_parts (is_id Replica v) (list_all (is_id Replica) us) all).1 e

-- ---- the uids of a table are those that were given, and behind them those that were added

from_given : (us vs : List Text) (u : Text) (from n : ℕ) → position_from (same_id u) from us ≡ Some n
    → position_from (same_id u) from (us ++ vs) ≡ Some n
from_given [] vs u from n e = absurd (cc e)
from_given (v ∷ us) vs u from n e =
    elim (same_id u v) as (λ b. cond b (Some from) (position_from (same_id u) (from + 1) us) ≡ Some n
    → cond b (Some from) (position_from (same_id u) (from + 1) (us ++ vs)) ≡ Some n) [
      | true ↦ λ here. here
      | false ↦ λ there. from_given us vs u (from + 1) n there
    ] e

from_added : (us vs : List Text) (u : Text) (from : ℕ) → position_from (same_id u) from us ≡ None
    → position_from (same_id u) from (us ++ vs)
    ≡ position_from (same_id u) (from + length us) vs
from_added [] vs u from e = ap (λ n. position_from (same_id u) n vs) (omega arith)
from_added (v ∷ us) vs u from e =
    elim (same_id u v) as (λ b. cond b (Some from) (position_from (same_id u) (from + 1) us) ≡ None
    → cond b (Some from) (position_from (same_id u) (from + 1) (us ++ vs))
    ≡ position_from (same_id u) (from + suc (length us)) vs) [
      | true ↦ λ here. absurd (cc here)
      | false ↦ λ there. from_added us vs u (from + 1) there
          ∙ ap (λ n. position_from (same_id u) n vs) (omega arith)
    ] e

shifted : ℕ → Option ℕ → Option ℕ
shifted k None = None
shifted k (Some n) = Some (k + n)

from_shifted : (vs : List Text) (u : Text) (from k : ℕ)
    → position_from (same_id u) (k + from) vs
    ≡ shifted k (position_from (same_id u) from vs)
unfolding shifted
from_shifted [] u from k = refl
from_shifted (v ∷ vs) u from k =
    elim (same_id u v) as (λ b. cond b (Some (k + from)) (position_from (same_id u) (k + from + 1) vs)
    ≡ shifted k (cond b (Some from) (position_from (same_id u) (from + 1) vs))) [
      | true ↦ refl
      | false ↦ ap (λ n. position_from (same_id u) n vs) (omega arith) ∙ from_shifted vs u (from + 1) k
    ]

pub number_given : (us vs : List Text) (u : Text) (n : ℕ) → number_of us u ≡ Some n → number_of (us ++ vs) u ≡ Some n
number_given us vs u n e = number_of-from (us ++ vs) u ∙ from_given us vs u 0 n (sym (number_of-from us u) ∙ e)

number_behind : (us vs : List Text) (u : Text) → number_of us u ≡ None
    → number_of (us ++ vs) u ≡ shifted (length us) (number_of vs u)
unfolding shifted
number_behind us vs u none =
    number_of-from (us ++ vs) u
    ∙ from_added us vs u 0 (sym (number_of-from us u) ∙ none)
    ∙ ap (λ n. position_from (same_id u) n vs) (omega arith)
    ∙ from_shifted vs u 0 (length us)
    ∙ ap (shifted (length us)) (sym (number_of-from vs u))

pub number_added : (us vs : List Text) (u : Text) (n : ℕ) → number_of us u ≡ None → number_of vs u ≡ Some n
    → number_of (us ++ vs) u ≡ Some (length us + n)
unfolding shifted
number_added us vs u n none e = number_behind us vs u none ∙ ap (shifted (length us)) e

pub number_neither : (us vs : List Text) (u : Text) → number_of us u ≡ None → number_of vs u ≡ None
    → number_of (us ++ vs) u ≡ None
unfolding shifted
number_neither us vs u none e = number_behind us vs u none ∙ ap (shifted (length us)) e

pub ruleset numbers = (number_given, number_added, number_neither)

some_shifted : (k : ℕ) (o : Option ℕ) → is_some (shifted k o) ≡ is_some o
unfolding shifted
some_shifted k None = refl
some_shifted k (Some n) = refl

-- a uid has a number where it is one of either
pub has_both : (us vs : List Text) (u : Text)
    → is_some (number_of (us ++ vs) u) ≡ (is_some (number_of us u) || is_some (number_of vs u))
has_both us vs u = by (number_of us u) refl
  where
    by : (o : Option ℕ) → number_of us u ≡ o
        → is_some (number_of (us ++ vs) u) ≡ (is_some (number_of us u) || is_some (number_of vs u))
    by None none =
        ap is_some (number_behind us vs u none) ∙ some_shifted (length us) (number_of vs u)
        ∙ sym (ap (λ o. is_some o || is_some (number_of vs u)) none)
    by (Some n) known = ap is_some (number_given us vs u n known)
        ∙ sym (ap (λ o. is_some o || is_some (number_of vs u)) known)

pub get_given : (us vs : List Text) (n : ℕ) → n < length us → slice_get (us ++ vs) n ≡ slice_get us n
get_given [] vs n h = absurd (omega (arith, h))
get_given (u ∷ us) vs zero h = refl
get_given (u ∷ us) vs (suc n) h = get_given us vs n (omega (arith, h))

pub get_added : (us vs : List Text) (n : ℕ) → length us ≤ n → slice_get (us ++ vs) n ≡ slice_get vs (n - length us)
get_added [] vs n h = ap (slice_get vs) (omega arith)
get_added (u ∷ us) vs zero h = absurd (omega (arith, h))
get_added (u ∷ us) vs (suc n) h = get_added us vs n (omega (arith, h)) ∙ ap (slice_get vs) (omega arith)

-- ---- few uids

pub none_numbered : AreNumbered []
none_numbered = record { ids = refl; distinct = refl; few = lit≤ tt }

pub one_numbered : (u : Text) → IsId Replica u → AreNumbered (u ∷ [])
one_numbered u is = record { ids = and_from (is_id Replica u) true is refl; distinct = refl; few = lit≤ tt }

pub length_both : (us vs : List Text) → length (us ++ vs) ≡ length us + length vs
length_both us vs = length-append us vs
