-- Places in a transaction log, as contracts see positions.
use Rattle.std.specs.Prelude.{◌≡◌, ◌↔◌, ℕ, Bool, true, ◌&&◌, nat_eq, List, Option, None, refl}
use Rattle.std.specs.Cmp.{IsEquivalence, nat_eq_equiv, on_equiv, and_equiv}
use Rattle.std.specs.Cmp.Lexicographic.{pointwise, nat_list_eq_equiv, options_equiv}
use Rattle.std.specs.Option.{option_eq}
use Rattle.std.specs.Coded.{Coded, code_by, coded×, coded_ℕ, coded_list, coded_option}

-- a generation of a log, and the id of the transaction that made it; generation 0 was made by none
pub record Place : Type 0 where
  pub generation : ℕ
  pub trans : Option (List ℕ)

-- the place before the first entry
abbrev pub nowhere : Place
nowhere = record { generation = 0; trans = None }

-- a place is stored as its two parts
abbrev pub place_code : Coded Place
place_code =
    code_by (ℕ × Option (List ℕ)) (coded× coded_ℕ (coded_option (coded_list coded_ℕ)))
    (λ p. (p.generation, p.trans)) (λ q. record { generation = q.0; trans = q.1 }) (λ _. refl)

-- whether two places are one
abbrev pub same_place : Place → Place → Bool
same_place p q = nat_eq p.generation q.generation && option_eq (pointwise nat_eq) p.trans q.trans

-- the test has the laws of an equality
pub same_place_equals : IsEquivalence same_place
same_place_equals =
    and_equiv (on_equiv (λ (p : Place). p.generation) nat_eq_equiv)
    (on_equiv (λ (p : Place). p.trans) (options_equiv nat_list_eq_equiv))

-- places are the same exactly where their parts are
abbrev pub SamePlaceDecides : Type 0
SamePlaceDecides = (p q : Place) → (same_place p q ≡ true) ↔ (p ≡ q)
