-- The four answers of a comparison of clocks.
use Rattle.std.specs.Prelude.{◌≡◌, ℕ, Bool, ◌&&◌, nat_eq, if◌then◌else◌}
use Rattle.std.specs.Cmp.{IsEquivalence, nat_eq_equiv, on_equiv, and_equiv}
use Rattle.std.specs.Cmp.Lexicographic.{pointwise, nat_list_eq_equiv, lists_equiv}
use Rattle.vector_rev.specs.Counts.{Uid}
use Rattle.vector_rev.specs.Clock.{Clock, Covers, Dominates, covers}
use Rattle.vector_rev.specs.declared.compare.Order.{Order}
use Rattle.vector_rev.specs.declared.compare.Order.TheVariants.{Equal, Newer, Older, Apart}

-- what each answer says of x and y
abbrev pub Compares : Clock → Clock → Order → Type 0
Compares x y Equal = x ≡ y
Compares x y Newer = Dominates x y
Compares x y Older = Dominates y x
Compares x y Apart = (¬ (Covers x y)) × (¬ (Covers y x))

-- the answer by the test of covering
abbrev pub order_of : Clock → Clock → Order
order_of x y = if covers x y then (if covers y x then Equal else Newer) else (if covers y x then Older else Apart)

-- the tests of being equal, of entries and of clocks
abbrev pub same_entry : Uid × ℕ → Uid × ℕ → Bool
same_entry e f = pointwise nat_eq e.0 f.0 && nat_eq e.1 f.1

abbrev pub same : Clock → Clock → Bool
same x y = pointwise same_entry x.entries y.entries

-- they have the laws of an equality
pub same_entry_equals : IsEquivalence same_entry
same_entry_equals = and_equiv (on_equiv (λ (e : Uid × ℕ). e.0) nat_list_eq_equiv)
    (on_equiv (λ (e : Uid × ℕ). e.1) nat_eq_equiv)

pub same_equals : IsEquivalence same
same_equals = on_equiv (λ (x : Clock). x.entries) (lists_equiv same_entry_equals)
