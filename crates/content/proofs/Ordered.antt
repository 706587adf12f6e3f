-- A value that was read has the names of each object in order, each once, and its negative numbers fit 64 bits.
use Rattle.std.proofs.Common.{◌≡◌, ℕ, zero, suc, ◌^◌, ◌≤◌, Bool, true, false, cond, ◌&&◌, nat_lt, nat_le, ◌==◌}
use Rattle.std.proofs.Common.{slice_index, drop, List, Option, Some, None, option_map, option_and_then, Ordering, Less}
use Rattle.std.proofs.Common.{Equal, Greater, nat_cmp, FitsSigned, pos, neg_ℤ, refl, ap, ◌∙◌, subst, arith}
use Rattle.std.proofs.lemmas.Bool.{and_parts, leb-true}
use Rattle.std.proofs.lemmas.Cmp.{nat_list_cmp_total}
use Rattle.std.proofs.lemmas.Int.{ints}
use Rattle.std.specs.Prelude.{⊤}
use Rattle.std.specs.Cmp.Lexicographic.{slice_cmp}
use Rattle.std.specs.Float.{binary64, float_is_finite}
use Rattle.std.specs.Int.{w64}
use Rattle.std.specs.Ordering.{match_ordering, ordering_reverse}
use Rattle.fast_float.specs.Text.{Parts, scan, digits_of, minus, nearest, with_sign}
use Rattle.json.specs.Lex.{tokens}
use Rattle.json.specs.Json as json
use Rattle.serde_json.specs.Data.{Num, unsigned, negative, float, Data, null, boolean, number, string, array, object}
use Rattle.serde_json.specs.Data.{Items, no_items, item, Members, no_members, member, put}
use Rattle.serde_json.specs.Find.{of_integer}
use Rattle.serde_json.specs.Read.{number_of, number_from, float_of, is_integer, of_json, of_items, of_members}
use Rattle.serde_json.specs.Read.{max_depth, read}

-- a negative number fits 64 bits, and is below zero
abbrev pub IsInRange : Num → Type 0
IsInRange (unsigned n) = ⊤
IsInRange (negative z) = FitsSigned w64 z × (of_integer z ≡ negative z)
IsInRange (float x) = ⊤

-- the name stands below every name of the members
abbrev pub IsBelow : List ℕ → Members → Type 0
IsBelow name no_members = ⊤
IsBelow name (member other d ms) = (slice_cmp nat_cmp name other ≡ Less) × IsBelow name ms

abbrev mutual
  pub IsOrdered : Data → Type 0
  IsOrdered null = ⊤
  IsOrdered (boolean b) = ⊤
  IsOrdered (number n) = IsInRange n
  IsOrdered (string s) = ⊤
  IsOrdered (array ds) = AreOrdered ds
  IsOrdered (object ms) = HasOrderedMembers ms

  pub AreOrdered : Items → Type 0
  AreOrdered no_items = ⊤
  AreOrdered (item d ds) = IsOrdered d × AreOrdered ds

  pub HasOrderedMembers : Members → Type 0
  HasOrderedMembers no_members = ⊤
  HasOrderedMembers (member name d ms) = IsBelow name ms × IsOrdered d × HasOrderedMembers ms

-- ---- what holds of a result, where there is one

abbrev pub Each : {A : Type 0} → (A → Type 0) → Option A → Type 0
Each P None = ⊤
Each P (Some a) = P a

pub Each-map : {A B : Type 0} (P : A → Type 0) (Q : B → Type 0) (f : A → B) → ((a : A) → P a → Q (f a))
    → (o : Option A) → Each P o → Each Q (option_map f o)
Each-map P Q f k None h = tt
Each-map P Q f k (Some a) h = k a h

pub Each-and_then : {A B : Type 0} (P : A → Type 0) (Q : B → Type 0) (f : A → Option B)
    → ((a : A) → P a → Each Q (f a)) → (o : Option A) → Each P o → Each Q (option_and_then f o)
Each-and_then P Q f k None h = tt
Each-and_then P Q f k (Some a) h = k a h

Each-cond : {A : Type 0} (P : A → Type 0) (b : Bool) (x y : Option A) → (b ≡ true → Each P x) → Each P y
    → Each P (cond b x y)
Each-cond P true x y p q = p refl
Each-cond P false x y p q = q

-- ---- numbers

fits_negative : (n : ℕ) → n ≤ 2 ^ 63 → FitsSigned w64 (neg_ℤ (pos n))
fits_negative n small = omega (arith, ints)

below_zero : (n : ℕ) → nat_lt 0 n ≡ true → of_integer (neg_ℤ (pos n)) ≡ negative (neg_ℤ (pos n))
below_zero zero some = absurd (cc)
below_zero (suc n) some = refl

in_range_float : (sign : Bool) (p : Parts) → Each IsInRange (float_of sign p)
in_range_float sign p =
    let x = nearest binary64 sign p
    in Each-cond IsInRange (float_is_finite x) (Some (float x)) None (λ e. tt {0}) (tt {0})

in_range_from : (sign : Bool) (p : Parts) → Each IsInRange (number_from sign p)
in_range_from false p =
    Each-cond IsInRange (is_integer p && nat_lt (digits_of p) (2 ^ 64)) (Some (unsigned (digits_of p)))
    (float_of false p) (λ e. tt {0}) (in_range_float false p)
in_range_from true p =
    let n = digits_of p in
    Each-cond IsInRange (is_integer p && nat_lt 0 n && nat_le n (2 ^ 63)) (Some (negative (with_sign true n)))
    (float_of true p)
    (λ e.
    let tests = and_parts (is_integer p && nat_lt 0 n) (nat_le n (2 ^ 63)) e in
    (fits_negative n (leb-true n (2 ^ 63) tests.1), below_zero n (and_parts (is_integer p) (nat_lt 0 n) tests.0).1))
    (in_range_float true p)

in_range : (s : List ℕ) → Each IsInRange (number_of s)
unfolding number_of
in_range s =
    Each-cond IsInRange (slice_index s 0 == minus) (number_from true (scan (drop 1 s))) (number_from false (scan s))
    (λ e. in_range_from true (scan (drop 1 s))) (in_range_from false (scan s))

-- ---- members

below_both : (k l : List ℕ) (ms : Members) → slice_cmp nat_cmp k l ≡ Less → IsBelow l ms → IsBelow k ms
below_both k l no_members less h = tt
below_both k l (member m d ms) less h = (nat_list_cmp_total.trans k l m less h.0, below_both k l ms less h.1)

IsBelow-match : (l : List ℕ) (o : Ordering) (a b c : Members) → IsBelow l a → IsBelow l b → IsBelow l c
    → IsBelow l (match_ordering o a b c)
IsBelow-match l Less a b c p q r = p
IsBelow-match l Equal a b c p q r = q
IsBelow-match l Greater a b c p q r = r

IsBelow-put : (l k : List ℕ) (d : Data) (ms : Members) → slice_cmp nat_cmp l k ≡ Less → IsBelow l ms
    → IsBelow l (put k d ms)
IsBelow-put l k d no_members less h = (less, tt)
IsBelow-put l k d (member m e ms) less h =
    IsBelow-match l (slice_cmp nat_cmp k m) _ _ _ (less, h) h (h.0, IsBelow-put l k d ms less h.1)

ordered_at : (k l : List ℕ) (d e : Data) (ms : Members) (o : Ordering) → slice_cmp nat_cmp k l ≡ o → IsOrdered d
    → HasOrderedMembers (member l e ms) → HasOrderedMembers (put k d ms)
    → HasOrderedMembers (match_ordering o (member k d (member l e ms)) (member l d ms) (member l e (put k d ms)))
ordered_at k l d e ms Less is fine old new = ((is, below_both k l ms is old.0), fine, old)
ordered_at k l d e ms Equal is fine old new = (old.0, fine, old.2)
ordered_at k l d e ms Greater is fine old new =
    (IsBelow-put l k d ms (nat_list_cmp_total.antisymm l k ∙ ap ordering_reverse is) old.0, old.1, new)

ordered_put : (k : List ℕ) (d : Data) (ms : Members) → IsOrdered d → HasOrderedMembers ms
    → HasOrderedMembers (put k d ms)
ordered_put k d no_members fine old = (tt, fine, tt)
ordered_put k d (member l e ms) fine old = ordered_at k l d e ms (slice_cmp nat_cmp k l) refl fine old
    (ordered_put k d ms fine old.2)

-- ---- the whole value

mutual
  ordered-of_json : (j : json.Json) → Each IsOrdered (of_json j)
  ordered-of_json json.null = tt
  ordered-of_json (json.boolean b) = tt
  ordered-of_json (json.number s) = Each-map IsInRange IsOrdered number (λ n h. h) (number_of s) (in_range s)
  ordered-of_json (json.string s) = tt
  ordered-of_json (json.array js) = Each-map AreOrdered IsOrdered array (λ ds h. h) (of_items js) (ordered-of_items js)
  ordered-of_json (json.object ms) = Each-map HasOrderedMembers IsOrdered object (λ os h. h) (of_members ms no_members)
      (ordered-of_members ms no_members tt)

  ordered-of_items : (js : json.Items) → Each AreOrdered (of_items js)
  ordered-of_items json.no_items = tt
  ordered-of_items (json.item j js) =
      Each-and_then IsOrdered AreOrdered _
      (λ d h. Each-map AreOrdered AreOrdered (item d) (λ ds k. (h, k)) (of_items js) (ordered-of_items js)) (of_json j)
      (ordered-of_json j)

  ordered-of_members : (ms : json.Members) (found : Members) → HasOrderedMembers found
      → Each HasOrderedMembers (of_members ms found)
  ordered-of_members json.no_members found h = h
  ordered-of_members (json.member k j ms) found h =
      Each-and_then IsOrdered HasOrderedMembers _
      (λ d fine. ordered-of_members ms (put k d found) (ordered_put k d found fine h)) (of_json j) (ordered-of_json j)

anything : {A : Type 0} (o : Option A) → Each (λ _. ⊤) o
anything None = tt
anything (Some a) = tt

pub IsOrdered-read : (text : List ℕ) (d : Data) → read text ≡ Some d → IsOrdered d
IsOrdered-read text d e =
    let last : Option json.Json = option_and_then (λ p. json.if_last p.0 p.1) (json.value max_depth (tokens text)) in
    subst (Each IsOrdered) e (Each-and_then (λ _. ⊤) IsOrdered of_json (λ j h. ordered-of_json j) last (anything last))
