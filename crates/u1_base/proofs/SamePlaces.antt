-- The test of two places being one decides it.
use Rattle.std.proofs.Common.{◌≡◌, ℕ, true, List, Option, Some, None, refl, sym, ◌∙◌, ap, subst}
use Rattle.std.specs.Prelude.{nat_eq}
use Rattle.std.specs.Option.{option_eq}
use Rattle.std.specs.Cmp.{unsigned_Decides}
use Rattle.std.specs.Cmp.Lexicographic.{pointwise, texts_ties}
use Rattle.u1_base.specs.Places.{Place, same_place, same_place_equals}
use Rattle.u1_base.proofs.SameIds.{same_id_is}
use Rattle.u1_base.proofs.Booleans.{first, second}

pub same_trans : (a b : Option (List ℕ)) → option_eq (pointwise nat_eq) a b ≡ true → a ≡ b
same_trans None None h = refl
same_trans None (Some y) h = absurd (cc h)
same_trans (Some x) None h = absurd (cc h)
same_trans (Some x) (Some y) h = ap Some (same_id_is x y (sym (texts_ties x y) ∙ h))

pub same_place_is : (p q : Place) → same_place p q ≡ true → p ≡ q
same_place_is p q h =
    let generations : p.generation ≡ q.generation = (unsigned_Decides p.generation q.generation).0 (first _ _ h) in
    let ids : p.trans ≡ q.trans = same_trans p.trans q.trans (second _ _ h) in
    λ i. record { generation = generations i; trans = ids i }

pub is_same_place : (p q : Place) → p ≡ q → same_place p q ≡ true
is_same_place p q same = subst (λ (x : Place). same_place p x ≡ true) same (same_place_equals.refl p)
