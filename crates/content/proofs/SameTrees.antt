-- The test of two trees is true exactly where they are equal.
use Rattle.std.proofs.Common.{◌≡◌, Bool, true, false, not, cond, ◌&&◌, bytes_eq, refl, sym, ap, ap₂, ◌∙◌}
use Rattle.std.proofs.lemmas.Bool.{and_from, and_parts}
use Rattle.std.proofs.lemmas.Bool.Decides.{Decides-int_eq}
use Rattle.std.proofs.lemmas.Slice.Eq.{bytes_eq-Decides}
use Rattle.content.specs.Tree.{Tree, null, boolean, whole, text, list, object, Items, no_items, item, Fields, no_fields}
use Rattle.content.specs.Tree.{field}
use Rattle.content.specs.Values.{is_same, is_same_items, is_same_fields}

bools_same : (a : Bool) → cond a a (not a) ≡ true
bools_same true = refl
bools_same false = refl

bools_equal : (a b : Bool) → cond a b (not b) ≡ true → a ≡ b
bools_equal true true e = refl
bools_equal true false e = absurd (cc)
bools_equal false true e = absurd (cc)
bools_equal false false e = refl

mutual
  same_itself : (t : Tree) → is_same t t ≡ true
  same_itself null = refl
  same_itself (boolean b) = bools_same b
  same_itself (whole z) = (Decides-int_eq z z).1 refl
  same_itself (text s) = (bytes_eq-Decides s s).1 refl
  same_itself (list ts) = same_items_itself ts
  same_itself (object fs) = same_fields_itself fs

  same_items_itself : (ts : Items) → is_same_items ts ts ≡ true
  same_items_itself no_items = refl
  same_items_itself (item t ts) = and_from _ _ (same_itself t) (same_items_itself ts)

  same_fields_itself : (fs : Fields) → is_same_fields fs fs ≡ true
  same_fields_itself no_fields = refl
  same_fields_itself (field k t fs) =
      and_from _ _ (and_from _ _ ((bytes_eq-Decides k k).1 refl) (same_itself t)) (same_fields_itself fs)

mutual
  equal-is_same : (t u : Tree) → is_same t u ≡ true → t ≡ u
  equal-is_same null null e = refl
  equal-is_same (boolean a) (boolean b) e = ap boolean (bools_equal a b e)
  equal-is_same (whole a) (whole b) e = ap whole ((Decides-int_eq a b).0 e)
  equal-is_same (text a) (text b) e = ap text ((bytes_eq-Decides a b).0 e)
  equal-is_same (list a) (list b) e = ap list (equal-is_same_items a b e)
  equal-is_same (object a) (object b) e = ap object (equal-is_same_fields a b e)
  equal-is_same _ _ e = absurd (cc)

  equal-is_same_items : (ts us : Items) → is_same_items ts us ≡ true → ts ≡ us
  equal-is_same_items no_items no_items e = refl
  equal-is_same_items (item t ts) (item u us) e =
      let p = and_parts (is_same t u) (is_same_items ts us) e
      in ap₂ item (equal-is_same t u p.0) (equal-is_same_items ts us p.1)
  equal-is_same_items _ _ e = absurd (cc)

  equal-is_same_fields : (fs gs : Fields) → is_same_fields fs gs ≡ true → fs ≡ gs
  equal-is_same_fields no_fields no_fields e = refl
  equal-is_same_fields (field k t fs) (field l u gs) e =
      let p = and_parts (bytes_eq k l && is_same t u) (is_same_fields fs gs) e in
      let q = and_parts (bytes_eq k l) (is_same t u) p.0 in
      let named = ap (λ n. field n t fs) ((bytes_eq-Decides k l).0 q.0) in
      named ∙ ap₂ (field l) (equal-is_same t u q.1) (equal-is_same_fields fs gs p.1)
  equal-is_same_fields _ _ e = absurd (cc)

pub is_same-Decides : (t u : Tree) → (is_same t u ≡ true → t ≡ u) × (t ≡ u → is_same t u ≡ true)
is_same-Decides t u = (equal-is_same t u, λ e. ap (is_same t) (sym e) ∙ same_itself t)
