-- Abbreviated keys decide the order of keys where they differ.
use Rattle.std.proofs.Common.{◌≡◌, ◌<◌, ℕ, List, [], ◌∷◌, length, get_or, refl, sym, ◌∙◌, ap, subst, arith, Ordering}
use Rattle.std.proofs.Common.{Less, Greater, nat_cmp}
use Rattle.std.specs.Cmp.{ranks}
use Rattle.std.specs.Ordering.{MatchOrdering, ordering_reverse, ordering_then}
use Rattle.key_lanes.specs.AbbreviatedKeys.{AreBytes, IsAbbreviatedKey, abbreviated_key}
use Rattle.key_lanes.proofs.AbbreviatedKeys.{key-nil, key-order}
use Rattle.index_tables.specs.Abbreviated.{IsAbbreviated, first_text}
use Rattle.index_tables.specs.Order.{key_cmp}
use Rattle.index_tables.proofs.TotalOrders.{key_total}

abbreviated-order : (a b : List (List ℕ)) → AreBytes (first_text a) → AreBytes (first_text b)
    → abbreviated_key 16 (first_text a) < abbreviated_key 16 (first_text b) → key_cmp a b ≡ Less
abbreviated-order [] [] small others less = absurd (omega arith)
abbreviated-order [] (t ∷ b) small others less = refl
abbreviated-order (s ∷ a) [] small others less = let none : abbreviated_key 16 [] ≡ 0 = key-nil 16
    in absurd (omega arith)
abbreviated-order (s ∷ a) (t ∷ b) small others less =
    ap (λ (r : Ordering). ordering_then r (key_cmp a b)) (key-order 16 s t small others less)

module _ (a b : List (List ℕ)) (own other : ℕ) (of_a : IsAbbreviated a own) (of_b : IsAbbreviated b other) where
  ranked : (r : Ordering) → r ≡ nat_cmp own other → MatchOrdering r (own < other) (own ≡ other) (other < own)
  ranked r is = subst (λ (r : Ordering). MatchOrdering r (own < other) (own ≡ other) (other < own)) (sym is)
      (ranks own other)

  pub less_by_abbreviated : Less ≡ nat_cmp own other → Less ≡ key_cmp a b
  less_by_abbreviated is = let less : own < other = ranked Less is
      in sym (abbreviated-order a b of_a.1 of_b.1 (omega (arith, of_a.0, of_b.0)))

  pub greater_by_abbreviated : Greater ≡ nat_cmp own other → Greater ≡ key_cmp a b
  greater_by_abbreviated is = let more : other < own = ranked Greater is
      in sym (key_total.antisymm a b
      ∙ ap ordering_reverse (abbreviated-order b a of_b.1 of_a.1 (omega (arith, of_a.0, of_b.0))))

-- ---- how an abbreviated key is made

no_byte : (k : ℕ) → get_or [] k 0 < 256
no_byte k = omega arith

pub abbreviated_none : (key : List (List ℕ)) → length key ≡ 0 → IsAbbreviated key 0
abbreviated_none [] none = (sym (key-nil 16), no_byte)
abbreviated_none (text ∷ texts) none = absurd (omega arith)

pub abbreviated_first : (key : List (List ℕ)) (text bytes : List ℕ) (number : ℕ) → 0 < length key
    → text ≡ get_or key 0 text → bytes ≡ text → IsAbbreviatedKey 16 bytes number → IsAbbreviated key number
abbreviated_first [] text bytes number some is same made = absurd (omega arith)
abbreviated_first (first ∷ texts) text bytes number some is same made =
    subst (λ (b : List ℕ). IsAbbreviatedKey 16 b number) (same ∙ is) made
